use Rattle.jsonb.proofs.Lemmas.{ap, sym, ◌∙◌, steps_of, steps_view, expression_view, truth, value_view, arith, compares_member, compares_children, member_mirrored, compares_members}
use Rattle.jsonb.specs.PathTree as math
use Rattle.jsonb.proofs.selector.compile.comparison_of.Goals as goal

pub returns-in_ok-literal-in-Some-None : goal.returns-in_ok-literal-in-Some-None
returns-in_ok-literal-in-Some-None c = λ compares.
    let k = c.in-Some-None in
    let literal = c.in_ok-literal-in-Some-None in
    record {
      members = k.ensures.0;
      compares = λ mode top t. grind (arith, compares_member);
    }

pub returns-in-Some-Some : goal.returns-in-Some-Some
returns-in-Some-Some c = λ compares.
    let k = c.in-Some-Some in
    record {
      left = k.ensures.0;
      right = k.ensures'.0;
      compares = λ mode top t.
          (λ i. truth mode (math.binary c.args.op (k.ensures.1 i) (k.ensures'.1 i)) top t)
          ∙ compares_members mode c.args.op (steps_of (steps_view k.left.now)) (steps_of (steps_view k.right.now)) top t compares;
    }

pub returns-in_ok-turned-in-None-Some : goal.returns-in_ok-turned-in-None-Some
returns-in_ok-turned-in-None-Some c = λ _.
    let k = c.in-None-Some in
    let literal = c.in_ok-literal-in-None-Some in
    let turned = c.in_ok-turned-in-None-Some in
    record {
      members = k.ensures'.0;
      compares = λ mode top t.
          ap (λ x. truth mode (math.binary c.args.op (expression_view c.args.left.now) x) top t) k.ensures'.1
          ∙ member_mirrored mode c.args.op turned.turned (expression_view c.args.left.now)
          (value_view literal.literal) (steps_of (steps_view k.names.now)) top t (sym turned.ensures) (literal.ensures mode top t);
    }

pub returns-in_ok-literal-in-None-None : goal.returns-in_ok-literal-in-None-None
returns-in_ok-literal-in-None-None c = λ compares.
    let names = c.in_ok-names-in-None-None in
    let literal = c.in_ok-literal-in-None-None in
    record {
      members = names.ensures.0;
      compares = λ mode top t.
          ap (λ x. truth mode (math.binary c.args.op x (expression_view c.args.right.now)) top t) names.ensures.1
          ∙ compares_children mode c.args.op (steps_view names.names.now) (expression_view c.args.right.now) (value_view literal.literal) top t compares (literal.ensures mode top t);
    }
