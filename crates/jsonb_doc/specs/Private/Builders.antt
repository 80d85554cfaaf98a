-- What a loop that pushes into a builder keeps true.
use Rattle.std.specs.Prelude.{◌≡◌, List, ◌++◌}
use Rattle.jsonb_doc.specs.Tree.{Tree}
use Rattle.jsonb_doc.specs.Payload.{Form}
use Rattle.jsonb_doc.specs.ArrayBuilder.{Parts, HoldsElements}

-- the trees that an array's builder holds, followed by those that are left, are the whole
pub record HoldsFront (form : Form) (parts : Parts) (left whole : List Tree) : Type 0 where
  pub held : List Tree
  pub holds : HoldsElements form parts held
  pub joined : held ++ left ≡ whole
