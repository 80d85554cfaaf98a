use Rattle.jsonb_raw.proofs.Lemmas.{◌≡◌, ◌∷◌, ℕ, List, Pairs, object, keys, Form, AreKeys, HasEntriesLeft, key_trees, IsTableOf, AreStrings, has_by, YieldsItemsLeft}
use Rattle.jsonb_raw.proofs.functions.path.exists.unsorted_decide.Given as goal

-- the strings that are left decide
abbrev pub invariant-loop-name : goal.invariant-loop-name
invariant-loop-name g l = record {
  can : (goal.iterator-loop-name g).can_next l.name-iterator;
  finite : (goal.iterator-loop-name g).is_finite l.name-iterator;
  left : (left : _ → List (List ℕ)) → YieldsItemsLeft (goal.iterator-loop-name g).next_gives left → (form : Form) (ps : Pairs)
      → AreKeys (keys ps) → HasEntriesLeft form l.keys (key_trees (keys ps))
      → AreStrings form l.strings (keys ps) × IsTableOf form l.table (keys ps) × (has_by l.found (left l.name-iterator) (object ps) ≡ has_by l.found (l.first ∷ left l.fn.names) (object ps));
}
