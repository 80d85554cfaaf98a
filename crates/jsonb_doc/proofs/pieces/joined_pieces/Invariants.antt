use Rattle.jsonb_doc.proofs.Lemmas.{◌≡◌, ◌++◌, ◌<◌, length, All, all_heads, stacked, joined, bytes_at}
use Rattle.jsonb_doc.proofs.pieces.joined_pieces.Given as goal

-- the bytes so far, and those of the pieces in the stack, are the whole
abbrev pub invariant-loop-index : goal.invariant-loop-index
invariant-loop-index l = record {
  within : All (λ i. i < length l.pieces) l.stack.items;
  whole : l.joined.items ++ joined (stacked (all_heads l.pieces) l.stack.items) ≡ bytes_at l.pieces l.root;
}

abbrev pub decreases-loop-index : goal.decreases-loop-index
decreases-loop-index l = length (stacked (all_heads l.pieces) l.stack.items)
