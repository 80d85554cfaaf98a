use Rattle.jsonb_raw.proofs.Lemmas.{◌≡◌, ◌≤◌, ◌<◌, ℕ, length, slice_index_or}
use Rattle.jsonb_raw.proofs.functions.path.name_block.place_name.Given as goal

-- the places that were passed have indices of names
abbrev pub invariant-loop-place : goal.invariant-loop-place
invariant-loop-place l = record {
  same : l.places ≡ l.fn.places;
  taken : (k : ℕ) → l.first ≤ k → k < l.place → slice_index_or l.places k 0 < length l.names;
}
