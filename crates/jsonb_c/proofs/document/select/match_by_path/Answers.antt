use Rattle.jsonb.specs.PathViews.{path_view}
use Rattle.jsonb_c.specs.Calls.{mode_of}
use Rattle.jsonb.specs.SelectorAnswers.{IsTruthOf}
use Rattle.jsonb_c.proofs.document.select.match_by_path.Goals as goal

pub returns-clause-truth : goal.returns-clause-truth
returns-clause-truth c =
    let said : IsTruthOf (mode_of c.args.strict) (path_view c.args.path.now) c.args.document.now c.predicate_match.result =
    rw (c.selector.ensures.root, c.selector.ensures.mode) at c.predicate_match.ensures.truth in
    said
