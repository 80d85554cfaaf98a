use Rattle.jsonb.proofs.Lemmas.{◌≡◌, ◌≤◌, false, vec_len, expression_has_document, expression_view, framed, waiting, have_document}
use Rattle.jsonb.proofs.path.copying.put_in.Given as goal

-- what is made so far, within the frames that are left, is the whole
abbrev pub invariant-loop-frame : goal.invariant-loop-frame
invariant-loop-frame l = record {
  whole : framed l.frames.items (expression_view l.copy) ≡ framed l.fn.frames.items (expression_view l.fn.copy);
  fewer : waiting l.frames.items ≤ waiting l.fn.frames.items;
  documents : have_document l.fn.frames.items ≡ false → expression_has_document (expression_view l.fn.copy) ≡ false →
      (have_document l.frames.items ≡ false) × (expression_has_document (expression_view l.copy) ≡ false);
}

abbrev pub decreases-loop-frame : goal.decreases-loop-frame
decreases-loop-frame l = vec_len l.frames
