use Rattle.jsonb.proofs.Lemmas.{ℕ, List, drop, AllZip, Locates, Tree, Thinned}
use Rattle.jsonb.proofs.selector.distinct.first_of_equals.Given as goal

-- the first items so far and the items that are left are alike to the whole
abbrev pub invariant-loop-item : goal.invariant-loop-item
invariant-loop-item l = (bytes : List ℕ) (ts : List Tree) → AllZip (Locates bytes) l.items ts
    → Thinned (Locates bytes) l.nodes.items (drop l.item-index l.items) ts
