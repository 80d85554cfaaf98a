use Rattle.jsonb.proofs.Lemmas.{◌≡◌, ◌+◌, ◌≤◌, expression_view, framed, waiting, have_document, parts}
use Rattle.jsonb.proofs.path.copying.first_leaf.Given as goal

-- what is left on the left, within the frames, is the whole
abbrev pub invariant-loop-inner : goal.invariant-loop-inner
invariant-loop-inner l = record {
  whole : framed l.frames.items (expression_view l.inner) ≡ framed l.fn.frames.items (expression_view l.fn.expression);
  fewer : waiting l.frames.items + parts l.inner ≤ waiting l.fn.frames.items + parts l.fn.expression;
  documents : have_document l.frames.items ≡ have_document l.fn.frames.items;
}

abbrev pub decreases-loop-inner : goal.decreases-loop-inner
decreases-loop-inner l = parts l.inner
