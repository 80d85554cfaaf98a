use Rattle.std.proofs.Common.{List, map}
use Rattle.std.specs.List.{zip, AllZip}
use Rattle.jsonb_doc.specs.Payload.{Form}
use Rattle.jsonb_doc.specs.Tree.{Tree}
use Rattle.jsonb_c.specs.Making.{IsRowOf}
use Rattle.jsonb_c.proofs.ObjectRows.{PutSoFar}
use Rattle.jsonb_c.proofs.build.object.object_of.Given as goal

abbrev pub invariant-loop-index : goal.invariant-loop-index
invariant-loop-index l = (form : Form) (ts : List Tree) → AllZip (IsRowOf form) l.documents ts
    → PutSoFar form l.builder l.index (zip (map (λ name. name.now) l.names) ts)
