use Rattle.jsonb_raw.proofs.Lemmas.{◌≡◌, ℕ, List, HasTexts, decided_by, YieldsItemsLeft}
use Rattle.jsonb_raw.proofs.functions.path.exists_in.set_decides.Given as goal

-- the names that are left decide
abbrev pub invariant-loop-name : goal.invariant-loop-name
invariant-loop-name g l = record {
  can : (goal.iterator-loop-name g).can_next l.name-iterator;
  finite : (goal.iterator-loop-name g).is_finite l.name-iterator;
  left : (left : _ → List (List ℕ)) → YieldsItemsLeft (goal.iterator-loop-name g).next_gives left → (ss : List (List ℕ)) → HasTexts l.set ss
      → decided_by l.found ss (left l.name-iterator) ≡ decided_by l.found ss (left l.fn.names);
}
