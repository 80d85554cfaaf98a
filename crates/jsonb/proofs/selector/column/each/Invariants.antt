use Rattle.jsonb.proofs.Lemmas.{take, AllZip}
use Rattle.std.specs.Fn.{FnReturnsAt}
use Rattle.jsonb.proofs.selector.column.each.Given as goal

abbrev pub invariant-loop-value : goal.invariant-loop-value
invariant-loop-value g l = AllZip (FnReturnsAt g.F.Fn l.f) (take l.value-index l.values) l.made.items
