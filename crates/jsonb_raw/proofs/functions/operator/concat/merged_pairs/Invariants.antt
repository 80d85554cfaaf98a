use Rattle.jsonb_raw.proofs.Lemmas.{◌+◌, ℕ, List, length, keys_of, Tree, Form, AreKeys, merged, HoldPairs, Merging}
use Rattle.jsonb_raw.proofs.functions.operator.concat.merged_pairs.Given as goal

-- the pairs that are kept, followed by what is left of both, are the whole
abbrev pub invariant-loop-runs : goal.invariant-loop-runs
invariant-loop-runs l = (form : Form) (ps qs : List (List ℕ × Tree)) → HoldPairs form l.fn.first ps → HoldPairs form l.fn.second qs → AreKeys (keys_of ps)
    → AreKeys (keys_of qs) → Merging form l.runs l.run l.left l.other l.is_second (merged ps qs)

abbrev pub decreases-loop-runs : goal.decreases-loop-runs
decreases-loop-runs l = length l.left.keys.words.now + length l.other.keys.words.now
