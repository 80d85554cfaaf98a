use Rattle.std.proofs.Common.{◌≡◌, map, drop}
use Rattle.jsonb_c.specs.Names.{names_of}
use Rattle.jsonb_c.proofs.Names.{behind}
use Rattle.jsonb_c.proofs.document.names.read_names.Given as goal

abbrev pub invariant-loop-index : goal.invariant-loop-index
invariant-loop-index l = names_of l.column ≡ behind (map (λ name. name.now) l.names.items) (names_of (drop l.index l.column))
