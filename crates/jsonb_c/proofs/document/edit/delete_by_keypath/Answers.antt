use Rattle.std.proofs.Common.{◌≡◌, ◌∙◌, ap, Some, Err, inr}
use Rattle.std.proofs.lemmas.Result.{err_from_is_err_and}
use Rattle.jsonb.specs.KeyPathGrammar.{key_path}
use Rattle.jsonb.specs.KeyPathViews.{key_paths_view}
use Rattle.jsonb_raw.proofs.IteratorLemmas.{iter_tells}
use Rattle.jsonb_c.proofs.Paths.{as_it_was, by_path_refused, deletes_without_memory}
use Rattle.jsonb_c.specs.Calls.{DeletesPlace}
use Rattle.jsonb_c.proofs.document.edit.delete_by_keypath.Goals as goal

pub returns-clause-deleted : goal.returns-clause-deleted
returns-clause-deleted c =
    let read : key_path c.args.path.now ≡ Some (key_paths_view c.in_ok-steps.steps) = c.in_ok-steps.ensures in
    let said = c.delete_by_keypath.ensures in
    let place : DeletesPlace (key_paths_view c.in_ok-steps.steps) c.args.document.now c.delete_by_keypath.result = record {
      scalar = λ form t d is. inr (said.scalar form t (rw c.new.ensures d) is);
      without = λ form t d is. as_it_was form c.args.document.now (key_paths_view c.in_ok-steps.steps) t c.delete_by_keypath.result
          (rw (c.iter.ensures.rest, c.deref.ensures.value) at (said.without _ iter_tells form t (rw c.new.ensures d) is))
          (λ none. rw c.new.ensures at
          (said.same _ iter_tells form t (rw c.new.ensures d) is (rw (c.iter.ensures.rest, c.deref.ensures.value) none)));
    } in
    rw read place

pub returns-in_err-steps-clause-deleted : goal.returns-in_err-steps-clause-deleted
returns-in_err-steps-clause-deleted c =
    let refused = err_from_is_err_and c.from_residual.result c.from_residual.ensures.1 in
    by_path_refused _ _ (key_path c.args.path.now) (λ steps. DeletesPlace steps c.args.document.now) _ (refused.1 ∙ ap Err refused.2) c.in_err-steps.ensures
    (deletes_without_memory c.args.document.now)
