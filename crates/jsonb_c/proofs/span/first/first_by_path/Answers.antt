use Rattle.std.proofs.Common.{◌≡◌, Err, ◌∙◌, ap}
use Rattle.std.proofs.lemmas.Result.{err_from_is_err_and}
use Rattle.jsonb.specs.PathTree.{is_predicate}
use Rattle.jsonb.specs.PathViews.{path_view}
use Rattle.jsonb.specs.SelectorAnswers.{first_item}
use Rattle.jsonb.proofs.RefinesLemmas.{given_by, same_answer, refused_as}
use Rattle.jsonb_c.proofs.FirstSpans.{succeeds}
use Rattle.jsonb_c.proofs.span.first.first_by_path.Goals as goal

pub returns-in_err-found-clause-first : goal.returns-in_err-found-clause-first
returns-in_err-found-clause-first c = λ form top outcome d m.
    let p = err_from_is_err_and c.from_residual.result c.from_residual.ensures.1 in
    let said = rw (c.selector.ensures.root, c.selector.ensures.mode) at c.in_err-found.ensures.first in
    same_answer (p.1 ∙ ap Err p.2) (refused_as (said form top outcome d m))

pub returns-clause-first : goal.returns-clause-first
returns-clause-first c = λ form top outcome d m.
    let said = rw (c.selector.ensures.root, c.selector.ensures.mode) at c.in_ok-found.ensures.first in
    given_by (said form top outcome d m)
    (λ ts h. succeeds _ c.first_span.result ts (c.first_span.ensures.span form top (is_predicate (path_view c.args.path.now)) (first_item ts) d h))
