use Rattle.jsonb_raw.proofs.Lemmas.{◌≡◌, ℕ, List, Tree, HoldsRoot, has_by, YieldsItemsLeft}
use Rattle.jsonb_raw.proofs.functions.path.exists.root_decides.Given as goal

-- the names that are left decide
abbrev pub invariant-loop-name : goal.invariant-loop-name
invariant-loop-name g l = record {
  can : (goal.iterator-loop-name g).can_next l.name-iterator;
  finite : (goal.iterator-loop-name g).is_finite l.name-iterator;
  left : (left : _ → List (List ℕ)) → YieldsItemsLeft (goal.iterator-loop-name g).next_gives left → (t : Tree) → HoldsRoot l.root t
      → has_by l.found (left l.name-iterator) t ≡ has_by l.found (left l.fn.names) t;
}
