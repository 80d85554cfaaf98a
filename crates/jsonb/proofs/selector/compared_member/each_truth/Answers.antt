use Rattle.jsonb.proofs.Lemmas.{Ok, List, map, flat_map, refl, ap, sym, ◌∙◌, no_refusal, Tree, compare, value_view, values_of_item, arith, failed_as, only_memory, known, is_false, is_not_false, compare_passes, compare_stops, spot_first, spot_end}
use Rattle.jsonb.proofs.selector.compared_member.each_truth.Goals as goal

pub loop-item-init : goal.loop-item-init
loop-item-init c = λ ts h. grind (arith, c.into_iter-item-iterator.ensures.into_iter_gives)

pub returns-in_err-item-clause-meant : goal.returns-in_err-item-clause-meant
returns-in_err-item-clause-meant c = λ ts h.
    let inv = c.loop-item.invariant ts h in
    absurd (no_refusal c.args.bytes.now inv.0 c.in-Some.item _ c.next.new.self c.in_err-item.was
    (c.in-Some.ensures.steps.takes c.args.bytes.now inv.0 inv.1))

pub returns-in_err-said-clause-meant : goal.returns-in_err-said-clause-meant
returns-in_err-said-clause-meant c = λ ts h.
    let inv = c.loop-item.invariant ts h in
    let k = spot_first c.args.bytes.now c.in_ok-item.was c.in-Some.ensures.steps inv.0 inv.1 in
    failed_as c.from_residual-in_err-said.ensures.1 (only_memory (c.in_err-said.ensures.meant k.first k.holds))

pub returns-then-ne-clause-meant : goal.returns-then-ne-clause-meant
returns-then-ne-clause-meant c = λ ts h.
    let rights = map value_view c.args.rights.now in
    let inv = c.loop-item.invariant ts h in
    let k = spot_first c.args.bytes.now c.in_ok-item.was c.in-Some.ensures.steps inv.0 inv.1 in
    grind (arith, known, compare_stops, is_not_false, c.in_ok-said.ensures.meant, c.ne.ensures, c.if-ne.true)

pub loop-item-preserved : goal.loop-item-preserved
loop-item-preserved c = λ ts h.
    let rights = map value_view c.args.rights.now in
    let inv = c.loop-item.invariant ts h in
    let k = spot_first c.args.bytes.now c.in_ok-item.was c.in-Some.ensures.steps inv.0 inv.1 in (
      k.others,
      k.left,
      inv.2 ∙ ap (λ (l : List Tree). compare c.args.op (flat_map values_of_item l) rights) k.whole
          ∙ compare_passes c.args.op rights (values_of_item k.first) (flat_map values_of_item k.others)
          (sym (c.in_ok-said.ensures.meant k.first k.holds).ok ∙ is_false c.in_ok-said.said (sym c.ne.ensures ∙ c.if-ne.false)),
    )

pub returns-clause-meant : goal.returns-clause-meant
returns-clause-meant c = λ ts h.
    let inv = c.loop-item.invariant ts h in
    known (ap Ok (inv.2 ∙ ap (λ (l : List Tree). compare c.args.op (flat_map values_of_item l) (map value_view c.args.rights.now))
    (spot_end c.args.bytes.now c.in-None.ensures.steps inv.0 inv.1))) refl
