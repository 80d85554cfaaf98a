use Rattle.jsonb.proofs.Lemmas.{Ok, List, map, flat_map, refl, ap, sym, ◌∙◌, no_refusal, Tree, compare, value_view, value_of_item, arith, failed_as, only_memory, known, is_false, is_not_false, compare_passes, compare_stops, spot_first, spot_end}
use Rattle.jsonb.proofs.selector.compared_member.elements_truth.Goals as goal

pub loop-element-init : goal.loop-element-init
loop-element-init c = λ ts h. grind (arith, c.into_iter-element-iterator.ensures.into_iter_gives)

pub returns-in_err-element-clause-meant : goal.returns-in_err-element-clause-meant
returns-in_err-element-clause-meant c = λ ts h.
    let inv = c.loop-element.invariant ts h in
    absurd (no_refusal c.args.bytes.now inv.0 c.in-Some.element _ c.next.new.self c.in_err-element.was
    (c.in-Some.ensures.steps.takes c.args.bytes.now inv.0 inv.1))

pub returns-in_err-truth-clause-meant : goal.returns-in_err-truth-clause-meant
returns-in_err-truth-clause-meant c = λ ts h.
    let inv = c.loop-element.invariant ts h in
    let k = spot_first c.args.bytes.now c.in_ok-element.was c.in-Some.ensures.steps inv.0 inv.1 in
    failed_as c.from_residual-in_err-truth.ensures.1 (only_memory (c.in_err-truth.ensures.meant k.first k.holds))

pub returns-then-ne-clause-meant : goal.returns-then-ne-clause-meant
returns-then-ne-clause-meant c = λ ts h.
    let rights = map value_view c.args.rights.now in
    let inv = c.loop-element.invariant ts h in
    let k = spot_first c.args.bytes.now c.in_ok-element.was c.in-Some.ensures.steps inv.0 inv.1 in
    grind (arith, known, compare_stops, is_not_false, c.in_ok-truth.ensures.meant, c.ne.ensures, c.if-ne.true)

pub loop-element-preserved : goal.loop-element-preserved
loop-element-preserved c = λ ts h.
    let rights = map value_view c.args.rights.now in
    let inv = c.loop-element.invariant ts h in
    let k = spot_first c.args.bytes.now c.in_ok-element.was c.in-Some.ensures.steps inv.0 inv.1 in (
      k.others,
      k.left,
      inv.2 ∙ ap (λ (l : List Tree). compare c.args.op (flat_map value_of_item l) rights) k.whole
          ∙ compare_passes c.args.op rights (value_of_item k.first) (flat_map value_of_item k.others)
          (sym (c.in_ok-truth.ensures.meant k.first k.holds).ok ∙ is_false c.in_ok-truth.truth (sym c.ne.ensures ∙ c.if-ne.false)),
    )

pub returns-clause-meant : goal.returns-clause-meant
returns-clause-meant c = λ ts h.
    let inv = c.loop-element.invariant ts h in
    known (ap Ok (inv.2 ∙ ap (λ (l : List Tree). compare c.args.op (flat_map value_of_item l) (map value_view c.args.rights.now))
    (spot_end c.args.bytes.now c.in-None.ensures.steps inv.0 inv.1))) refl
