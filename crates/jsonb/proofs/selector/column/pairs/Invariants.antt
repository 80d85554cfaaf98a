use Rattle.jsonb.proofs.Lemmas.{List, ◌++◌, drop, ArePairs, ReturnsAtBoth}
use Rattle.jsonb.proofs.selector.column.pairs.Given as goal

-- what is made of the pairs that are left, after what is made so far, is made of all
abbrev pub invariant-loop-left : goal.invariant-loop-left
invariant-loop-left g l = (zs : List _) → ArePairs (ReturnsAtBoth g.F.Fn l.f) (drop l.left-index l.lefts) l.rest zs
    → ArePairs (ReturnsAtBoth g.F.Fn l.f) l.lefts l.rights (l.made.items ++ zs)
