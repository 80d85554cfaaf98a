use Rattle.jsonb_doc.proofs.Lemmas.{ℕ, ◌≤◌, List, length, HoldKeys, AreBelow, KeysLeft}
use Rattle.jsonb_doc.proofs.key_search.key_position.Given as goal

-- the keys that were passed are below the name
abbrev pub invariant-loop-key : goal.invariant-loop-key
invariant-loop-key l = record {
  bound : length l.left ≤ length l.fn.words;
  left : (ks : List (List ℕ)) (rest : List ℕ) → HoldKeys ks l.fn.words l.fn.bytes rest → KeysLeft (AreBelow l.fn.name) ks rest l.left l.left_bytes;
}

abbrev pub decreases-loop-key : goal.decreases-loop-key
decreases-loop-key l = length l.left
