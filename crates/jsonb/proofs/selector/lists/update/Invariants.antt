use Rattle.std.specs.Fn.{FnReturns}
use Rattle.jsonb.proofs.Lemmas.{MadeUntil}
use Rattle.jsonb.proofs.selector.lists.update.Given as goal

-- the lists before this one are replaced
abbrev pub invariant-loop-list : goal.invariant-loop-list
invariant-loop-list g l = MadeUntil (λ before after. FnReturns g.F.Fn l.f (before, tt) after) l.list-index l.initial.list-items l.list-items
