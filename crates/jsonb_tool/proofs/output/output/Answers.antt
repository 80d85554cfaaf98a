use Rattle.jsonb_tool.proofs.output.output.Goals as goal

pub returns-in-Key : goal.returns-in-Key
returns-in-Key c = rw c.in-Key.is (rw c.as_slice-in-Key.ensures.value at c.key.ensures)

pub returns-in-Leaves : goal.returns-in-Leaves
returns-in-Leaves c = rw c.in-Leaves.is (rw c.as_slice-in-Leaves.ensures.value at c.leaves.ensures)
