use Rattle.std.proofs.Common.{drop}
use Rattle.jsonb_c.proofs.NameSets.{Gathers}
use Rattle.jsonb_c.proofs.document.names.set_of.Given as goal

-- the set and the names that are left are the names
abbrev pub invariant-loop-name : goal.invariant-loop-name
invariant-loop-name l = Gathers l.set (drop l.name-index l.names) l.names
