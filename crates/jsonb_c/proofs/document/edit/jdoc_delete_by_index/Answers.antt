use Rattle.std.proofs.Common.{w32}
use Rattle.std.proofs.lemmas.Int.{to_z-of_z}
use Rattle.jsonb_c.proofs.document.edit.jdoc_delete_by_index.Goals as goal

pub returns : goal.returns
returns c =
    let same = to_z-of_z w32 c.args.index c.ranges.index in (
      c.delete_by_index.result,
      record {
        deleted = λ form t d. rw same at (c.delete_by_index.ensures.deleted form t (rw c.new-document.ensures d));
        unchanged = λ form ts d outside. rw c.new-document.ensures at
            (c.delete_by_index.ensures.unchanged form ts (rw c.new-document.ensures d) (rw same outside));
      },
      c.delete_by_index.ensures.errors,
      c.deliver_made.ensures,
    )
