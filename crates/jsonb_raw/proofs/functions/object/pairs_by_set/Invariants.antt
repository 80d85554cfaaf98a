use Rattle.jsonb_raw.proofs.Lemmas.{◌≡◌, List, ℕ, length, keys_of, Tree, Form, AreKeys, parted, HoldPairs, names_left, Parting}
use Rattle.jsonb_raw.proofs.functions.object.pairs_by_set.Given as goal

-- the pairs that are kept, followed by what the set leaves of the others, are the whole, and the names that are left
-- decide for the others
abbrev pub invariant-loop-runs : goal.invariant-loop-runs
invariant-loop-runs l = record {
  left : (form : Form) (ps : List (List ℕ × Tree)) → HoldPairs form l.pairs ps → AreKeys (keys_of ps)
      → Parting form l.runs l.left l.wanted l.names (names_left l.sorted) (parted l.wanted l.names ps);
  names : l.sorted.names.now ≡ l.names;
}

abbrev pub decreases-loop-runs : goal.decreases-loop-runs
decreases-loop-runs l = length l.left.keys.words.now
