use Rattle.jsonb_raw.proofs.Lemmas.{◌≤◌, IsPlaced}
use Rattle.jsonb_raw.proofs.functions.path.name_block.find_from.Given as goal

-- the place of a string that has one is not passed
abbrev pub invariant-loop-place : goal.invariant-loop-place
invariant-loop-place l = (p : IsPlaced l.names l.places l.text) → l.place ≤ p.place
