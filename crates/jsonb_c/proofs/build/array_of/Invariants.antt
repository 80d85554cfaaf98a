use Rattle.std.proofs.Common.{List, drop}
use Rattle.jsonb_doc.specs.Payload.{Form}
use Rattle.jsonb_doc.specs.Tree.{Tree}
use Rattle.jsonb_doc.specs.Private.Builders.{HoldsFront}
use Rattle.std.specs.List.{AllZip}
use Rattle.jsonb_c.specs.Making.{IsRowOf}
use Rattle.jsonb_c.proofs.build.array_of.Given as goal

abbrev pub invariant-loop-index : goal.invariant-loop-index
invariant-loop-index l = (form : Form) (ts : List Tree) → AllZip (IsRowOf form) l.column ts → HoldsFront form l.builder (drop l.index ts) ts
