use Rattle.std.proofs.Common.{inr}
use Rattle.jsonb.specs.KeyPathViews.{key_paths_view}
use Rattle.jsonb_raw.proofs.IteratorLemmas.{iter_tells}
use Rattle.jsonb_c.proofs.Paths.{as_it_was}
use Rattle.jsonb_c.proofs.column.documents.without_part.Goals as goal

pub returns-clause-deleted : goal.returns-clause-deleted
returns-clause-deleted c =
    let said = c.delete_by_keypath.ensures in
    record {
      scalar = λ form t d is. inr (said.scalar form t (rw c.new.ensures d) is);
      without = λ form t d is. as_it_was form c.args.document.now (key_paths_view c.args.steps.now) t c.delete_by_keypath.result
          (rw (c.iter.ensures.rest, c.deref.ensures.value) at (said.without _ iter_tells form t (rw c.new.ensures d) is))
          (λ none. rw c.new.ensures at
          (said.same _ iter_tells form t (rw c.new.ensures d) is (rw (c.iter.ensures.rest, c.deref.ensures.value) none)));
    }
