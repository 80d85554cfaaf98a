use Rattle.std.proofs.Common.{w32}
use Rattle.std.proofs.lemmas.Int.{to_z-of_z}
use Rattle.jsonb_c.proofs.document.edit.jdoc_array_insert.Goals as goal

pub returns : goal.returns
returns c = (
  c.array_insert-made.result,
  λ form t u d e. rw (to_z-of_z w32 c.args.position c.ranges.position) at
      (c.array_insert-made.ensures.inserted form t u (rw c.new.ensures d) (rw c.new-2.ensures e)),
  c.array_insert-made.ensures.errors,
  c.deliver_made.ensures,
)
