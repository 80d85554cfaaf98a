use Rattle.jsonb.proofs.Lemmas.{node_spots, step_meaning, step_view, list_then}
use Rattle.jsonb.proofs.selector.expressions.step_list.Goals as goal

pub returns-clause-meant : goal.returns-clause-meant
returns-clause-meant c = λ top o plain h.
    list_then c.args.context.now.document.bytes.now (step_meaning c.args.context.now.mode (step_view c.args.step.now) top) (node_spots c.in_ok-list.field-0) o
    c.plain_list.result (rw c.in_ok-list.was at h).ok (λ vs at. c.plain_list.ensures.meant top vs plain at)
