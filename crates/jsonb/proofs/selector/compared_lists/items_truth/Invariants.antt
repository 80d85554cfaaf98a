use Rattle.jsonb.proofs.Lemmas.{◌≡◌, List, drop, Locates, Tree, Expression, AllZip, IsMemberCompared, items_truth}
use Rattle.jsonb.proofs.selector.compared_lists.items_truth.Given as goal

-- the items that are left determine the result of all
abbrev pub invariant-loop-item : goal.invariant-loop-item
invariant-loop-item l = (e : Expression) (top : Tree) (ts : List Tree) → IsMemberCompared l.comparison e → AllZip (Locates l.bytes) l.items ts
    → (rest : List Tree) × AllZip (Locates l.bytes) (drop l.item-index l.items) rest
    × (items_truth l.comparison top ts ≡ items_truth l.comparison top rest)
