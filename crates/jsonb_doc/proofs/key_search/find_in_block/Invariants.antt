use Rattle.jsonb_doc.proofs.Lemmas.{ℕ, ◌*◌, ◌^◌, ◌≤◌, List, length, drop, HoldKeys, IsNoneOf, KeysLeft}
use Rattle.jsonb_doc.proofs.key_search.find_in_block.Given as goal

-- the name is none of the keys so far
abbrev pub invariant-loop-at : goal.invariant-loop-at
invariant-loop-at l = record {
  bound : l.end ≤ 2 ^ 28 * l.at;
  left : (ks : List (List ℕ)) (rest : List ℕ) → HoldKeys ks l.fn.words l.fn.bytes rest
      → KeysLeft (IsNoneOf l.fn.name) ks rest (drop (4 * l.at) l.fn.words) (drop l.end l.fn.bytes) × (l.end ≤ length l.fn.bytes);
}
