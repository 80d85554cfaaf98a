use Rattle.jsonb.proofs.Lemmas.{◌≡◌, None, length, partial_outcome, resumed, IsPartial, AreFrames}
use Rattle.jsonb.proofs.parser.expression.failed.Given as goal

-- the frames that are left make the whole of what their innermost expression had
abbrev pub invariant-loop-frame : goal.invariant-loop-frame
invariant-loop-frame l = record {
  read : resumed l.frames.items (partial_outcome l.outer None) ≡ resumed l.fn.frames.items (partial_outcome l.fn.partial None);
  frames : AreFrames l.frames.items;
  partial : IsPartial l.outer;
}

abbrev pub decreases-loop-frame : goal.decreases-loop-frame
decreases-loop-frame l = length l.frames.items
