use Rattle.jsonb.proofs.Lemmas.{◌≡◌, ◌++◌, ap, sym, ◌∙◌, take, take-append-drop, map-append, steps_of, step_view, steps_view, expression_view, truth, operand_values, are_members, value_view, Lax, compares_member, compares_list, binary_is}
use Rattle.jsonb.specs.PathTree as math
use Rattle.jsonb.proofs.selector.compared_lists.list_compared.Goals as goal

pub returns-else-not-is_comparison : goal.returns-else-not-is_comparison
returns-else-not-is_comparison c =
    let k = c.in-BinaryOp in
    let steps = c.in_ok-steps-in-BinaryOp in
    let literal = c.in_ok-literal-in-BinaryOp in
    let compares = sym c.is_comparison.ensures ∙ c.if-not-is_comparison.false in
    let names = steps_view c.split_at.result.1.now in
    let split : steps_view steps.steps.now ≡ steps_view c.split_at.result.0.now ++ names =
    ap steps_view (sym (take-append-drop c.members_behind.result steps.steps.now)) ∙ map-append step_view (take c.members_behind.result steps.steps.now) _
    ∙ (λ i. steps_view (sym c.split_at.ensures.front i) ++ steps_view (sym c.split_at.ensures.back i)) in
    record {
      each = math.binary k.op (math.paths (math.step math.current (steps_of names))) (expression_view k.right.value);
      member = record {
        members = ap (λ l. are_members (steps_view l)) c.split_at.ensures.back ∙ c.members_behind.ensures.members;
        compares = λ mode top t.
            compares_member mode k.op (steps_of names) (expression_view k.right.value) (value_view literal.literal) top t compares
            (ap (λ x. operand_values mode (expression_view x) top t) (sym c.deref-in-BinaryOp.ensures) ∙ literal.ensures mode top t);
      };
      compares = λ top.
          ap (λ x. truth Lax x top top)
          (binary_is c.args.e.now k.op k.left k.right k.is
          ∙ (λ i. math.binary k.op ((ap expression_view (sym c.deref.ensures) ∙ steps.ensures) i) (expression_view k.right.value)))
          ∙ compares_list k.op (steps_view steps.steps.now) (steps_view c.split_at.result.0.now) names (expression_view k.right.value)
          (value_view literal.literal) top split compares
          (ap (λ x. operand_values Lax (expression_view x) top top) (sym c.deref-in-BinaryOp.ensures) ∙ literal.ensures Lax top top);
    }
