use Rattle.jsonb.proofs.Lemmas.{ap, sym, ◌∙◌, steps_view, expression_view, literal_view, expression_predicate, operand_values, binary_is, named_compared}
use Rattle.jsonb.specs.PathTree as math
use Rattle.jsonb.specs.Values.{literal_value}
use Rattle.jsonb.proofs.selector.compared_lists.root_compared.Goals as goal

pub returns-else-not-is_comparison : goal.returns-else-not-is_comparison
returns-else-not-is_comparison c = λ mode top.
    let k = c.in-BinaryOp in
    let steps = c.in_ok-steps-in-BinaryOp in
    let literal = c.in_ok-literal-in-BinaryOp in
    ap (λ x. expression_predicate mode x top)
    (binary_is c.args.e.now k.op k.left k.right k.is
    ∙ (λ i. math.binary k.op ((ap expression_view (sym c.deref.ensures) ∙ steps.ensures) i) (expression_view k.right.value)))
    ∙ named_compared mode k.op (steps_view steps.steps.now) c.in_ok-name-in-BinaryOp.name.now (expression_view k.right.value) (literal_value (literal_view literal.literal.now)) top
    c.in_ok-name-in-BinaryOp.ensures (sym c.is_comparison.ensures ∙ c.if-not-is_comparison.false)
    (ap (λ x. operand_values mode (expression_view x) top top) (sym c.deref-in-BinaryOp.ensures) ∙ literal.ensures mode top top)
