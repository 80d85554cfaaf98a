use Rattle.jsonb_raw.proofs.Lemmas.{◌+◌, Tree, Form, AreEntriesOf, IsStripping, strip, room, rooms}
use Rattle.jsonb_raw.proofs.functions.operator.stripping.strip_container.Given as goal

-- what is written becomes the whole with what is left
abbrev pub invariant-walk : goal.invariant-walk
invariant-walk l = (form : Form) (t : Tree) → AreEntriesOf form t l.container → IsStripping form l.writer l.left l.around.items (strip t)

abbrev pub decreases-walk : goal.decreases-walk
decreases-walk l = room l.left + rooms l.around.items
