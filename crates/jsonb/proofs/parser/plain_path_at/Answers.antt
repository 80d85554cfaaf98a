use Rattle.jsonb.proofs.Lemmas.{steps_view, path-begins}
use Rattle.jsonb.proofs.parser.plain_path_at.Goals as goal

pub returns : goal.returns
returns c =
    rw (path-begins c.args.input.now (steps_view c.in_ok-steps.steps.items) c.in_ok-steps.rest.now c.in_ok-steps.ensures) at c.more_steps_at.ensures
