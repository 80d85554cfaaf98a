use Rattle.jsonb_doc.proofs.Lemmas.{◌≡◌, ◌+◌, ◌*◌, reverse, tree_seen, filled_tree, filled_parts, Number, tree_within, around_parts}
use Rattle.jsonb_doc.specs.Number as spec
use Rattle.jsonb_doc.proofs.value.copy.copy.Given as goal

-- what is filled is the value, with the containers around it
abbrev pub invariant-loop-filled : goal.invariant-loop-filled
invariant-loop-filled l = (seen : Number → spec.Number)
    → tree_within seen (reverse l.around.items) (filled_tree seen l.filled) ≡ tree_seen seen l.fn.value

abbrev pub decreases-loop-filled : goal.decreases-loop-filled
decreases-loop-filled l = 2 * filled_parts l.filled + around_parts (reverse l.around.items)
