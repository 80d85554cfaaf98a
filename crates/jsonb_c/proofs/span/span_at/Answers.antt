use Rattle.std.proofs.lemmas.Result.{err_from_is_err_and}
use Rattle.jsonb.specs.KeyPathViews.{key_paths_view}
use Rattle.jsonb_raw.specs.Places.{tree_at_steps}
use Rattle.jsonb_raw.proofs.AnswerLemmas.{answered}
use Rattle.jsonb_raw.proofs.IteratorLemmas.{iter_tells}
use Rattle.jsonb_c.proofs.span.span_at.Goals as goal

pub returns-in_err-found-clause-span : goal.returns-in_err-found-clause-span
returns-in_err-found-clause-span c =
    let p = err_from_is_err_and c.from_residual.result c.from_residual.ensures.1 in
    let said = c.in_err-found.ensures.place _ iter_tells in
    λ form t d. rw (p.1, p.2) (said form t (rw c.new.ensures d))

pub returns-clause-span : goal.returns-clause-span
returns-clause-span c =
    let said = c.in_ok-found.ensures.place _ iter_tells in
    λ form t d.
    let same = rw (c.iter.ensures.rest, c.deref.ensures.value, c.new.ensures) at (said form t (rw c.new.ensures d)) in
    answered _ c.found_span.result (c.found_span.ensures.span form t (tree_at_steps (key_paths_view c.args.steps.now) t) d same)
