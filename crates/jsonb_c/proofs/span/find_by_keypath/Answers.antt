use Rattle.std.proofs.Common.{◌≡◌, Some}
use Rattle.std.proofs.lemmas.Result.{err_from_is_err_and}
use Rattle.jsonb.specs.KeyPathGrammar.{key_path}
use Rattle.jsonb.specs.KeyPathViews.{key_paths_view}
use Rattle.jsonb_raw.specs.Places.{tree_at_steps}
use Rattle.jsonb_raw.proofs.AnswerLemmas.{answered}
use Rattle.jsonb_raw.proofs.IteratorLemmas.{iter_tells}
use Rattle.jsonb_c.proofs.span.find_by_keypath.Goals as goal

pub returns-in_err-found-clause-span : goal.returns-in_err-found-clause-span
returns-in_err-found-clause-span c =
    let read : key_path c.args.path.now ≡ Some (key_paths_view c.in_ok-steps.steps) = c.in_ok-steps.ensures in
    let p = err_from_is_err_and c.from_residual-in_err-found.result c.from_residual-in_err-found.ensures.1 in
    let said = c.in_err-found.ensures.place _ iter_tells in
    rw read (λ form t d. rw (p.1, p.2) (said form t (rw c.new.ensures d)))

pub returns-clause-span : goal.returns-clause-span
returns-clause-span c =
    let read : key_path c.args.path.now ≡ Some (key_paths_view c.in_ok-steps.steps) = c.in_ok-steps.ensures in
    let said = c.in_ok-found.ensures.place _ iter_tells in
    rw read (λ form t d.
    let same = rw (c.iter.ensures.rest, c.deref.ensures.value, c.new.ensures) at (said form t (rw c.new.ensures d)) in
    answered _ c.found_span.result (c.found_span.ensures.span form t (tree_at_steps (key_paths_view c.in_ok-steps.steps) t) d same))
