use Rattle.jsonb_raw.proofs.Lemmas.{◌≡◌, ◌≤◌, Pairs, keys, value_under, Form, HasPairEntriesLeft, entries_bound, entries_room, AreRising, pairs_above, SomePairEntries}
use Rattle.jsonb_raw.proofs.functions.operator.step.advance_to_key.Given as goal

-- the keys so far are below, so those that are left decide
abbrev pub invariant-loop-pair : goal.invariant-loop-pair
invariant-loop-pair l = record {
  room : entries_room l.left.values ≤ entries_room l.fn.left.values;
  left : (form : Form) (ps : Pairs) → HasPairEntriesLeft form l.fn.left ps
      → SomePairEntries form l.left
      (λ left. (value_under l.key left ≡ value_under l.key ps) × (pairs_above l.key left ≡ pairs_above l.key ps) × AreRising (keys left));
}

abbrev pub decreases-loop-pair : goal.decreases-loop-pair
decreases-loop-pair l = entries_bound l.left.keys
