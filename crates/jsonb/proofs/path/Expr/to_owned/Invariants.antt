use Rattle.jsonb.proofs.Lemmas.{◌≡◌, ◌+◌, false, expression_view, leaf_view, leaf_parts, leaf_has_document, framed, waiting, have_document}
use Rattle.jsonb.proofs.path.Expr.to_owned.Given as goal

-- the leaf that is next, within its frames, is the whole, and no copy has a document
abbrev pub invariant-loop-copied : goal.invariant-loop-copied
invariant-loop-copied l = record {
  whole : framed l.reached.frames.items (leaf_view l.reached.leaf) ≡ expression_view l.fn.self;
  documents : have_document l.reached.frames.items ≡ false;
  clean : leaf_has_document l.reached.leaf ≡ false;
}

abbrev pub decreases-loop-copied : goal.decreases-loop-copied
decreases-loop-copied l = waiting l.reached.frames.items + leaf_parts l.reached.leaf
