use Rattle.jsonb.proofs.Lemmas.{arith}
use Rattle.jsonb.proofs.selector.compared_member.other_with.Goals as goal

pub returns-clause-meant : goal.returns-clause-meant
returns-clause-meant c = λ t l. grind (arith, c.text_truth.ensures.meant t l, c.from_ref.ensures.value, c.value_of_literal-right.ensures)
