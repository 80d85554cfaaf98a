use Rattle.jsonb_doc.proofs.Lemmas.{ℕ, ◌+◌, reverse, Tree, Form, IsPart, IsWalking, Nested, weight_of_all, left_weight, outer_weight}
use Rattle.jsonb_doc.proofs.event_list.writing.write_container.Given as goal

-- what is written becomes the whole with what is left
abbrev pub invariant-walk : goal.invariant-walk
invariant-walk l = (form : Form) (room : ℕ) (t : Tree) → IsPart l.all room (Nested l.fn.run) t
    → IsWalking form l.all l.writer l.left l.around.items t

abbrev pub decreases-walk : goal.decreases-walk
decreases-walk l = left_weight l.left + weight_of_all outer_weight (reverse l.around.items)
