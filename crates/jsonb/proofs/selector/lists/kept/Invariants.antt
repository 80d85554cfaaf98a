use Rattle.jsonb.proofs.Lemmas.{ℕ, List, AllZip, Locates, Tree, Expression, Mode, truth, node_spots, AreFrom, Said, KeptUntil}
use Rattle.jsonb.proofs.selector.lists.kept.Given as goal

-- the items so far, and what the filter keeps of the others, are what it keeps of all
abbrev pub invariant-loop-item : goal.invariant-loop-item
invariant-loop-item l = (bytes : List ℕ) (mode : Mode) (e : Expression) (top : Tree) (ts : List Tree) → AllZip (Locates bytes) l.items ts
    → AreFrom (Said (truth mode e top)) l.truths l.start ts → KeptUntil bytes (truth mode e top) l.items l.truths l.item-index l.index (node_spots l.nodes) ts
