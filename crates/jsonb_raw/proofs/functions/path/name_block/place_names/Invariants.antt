use Rattle.jsonb_raw.proofs.Lemmas.{◌≡◌, ◌<◌, ℕ, List, length, IsNameAt, IsPlaced}
use Rattle.jsonb_raw.proofs.functions.path.name_block.place_names.Given as goal

-- the names so far have places
abbrev pub invariant-loop-at : goal.invariant-loop-at
invariant-loop-at l = record {
  length : length l.places ≡ length l.fn.places;
  placed : (k : ℕ) (s : List ℕ) → k < l.at → IsNameAt l.names k s → IsPlaced l.names l.places s;
}
