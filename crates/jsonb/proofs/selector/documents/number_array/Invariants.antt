use Rattle.jsonb.proofs.Lemmas.{List, drop, AllZip, Form, Tree, IsNumberItem, HoldsFront}
use Rattle.jsonb.proofs.selector.documents.number_array.Given as goal

abbrev pub invariant-loop-position : goal.invariant-loop-position
invariant-loop-position l = (form : Form) (ts : List Tree) → AllZip IsNumberItem l.numbers ts → HoldsFront form l.builder (drop l.position ts) ts
