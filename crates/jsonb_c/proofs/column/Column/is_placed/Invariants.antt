use Rattle.std.proofs.Common.{◌≡◌, drop}
use Rattle.jsonb_c.specs.Making.{is_placed}
use Rattle.jsonb_c.proofs.column.Column.is_placed.Given as goal

abbrev pub invariant-loop-index : goal.invariant-loop-index
invariant-loop-index l = is_placed l.self ≡ is_placed (drop l.index l.self)
