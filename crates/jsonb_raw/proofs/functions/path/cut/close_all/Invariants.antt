use Rattle.jsonb_raw.proofs.Lemmas.{length, reverse, Tree, Form, HasRoom, rooms_after, IsClosing}
use Rattle.jsonb_raw.proofs.functions.path.cut.close_all.Given as goal

-- what is written becomes the whole with what is left, and is short enough
abbrev pub invariant-loop-outer : goal.invariant-loop-outer
invariant-loop-outer l = record {
  room : HasRoom l.writer 0 (rooms_after (reverse l.around.items));
  closing : (form : Form) (whole : Tree) → IsClosing form l.fn.writer l.fn.around.items whole → IsClosing form l.writer l.around.items whole;
}

abbrev pub decreases-loop-outer : goal.decreases-loop-outer
decreases-loop-outer l = length l.around.items
