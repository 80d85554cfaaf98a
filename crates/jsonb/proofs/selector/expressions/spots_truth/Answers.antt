use Rattle.jsonb.proofs.Lemmas.{Ok, List, map, flat_map, refl, ap, sym, ◌∙◌, Tree, Locates, compare, value_view, values_of_item, arith, failed_as, only_memory, known, is_false, is_not_false, compare_passes, compare_stops, no_spot, list_first, list_end}
use Rattle.jsonb.proofs.selector.expressions.spots_truth.Goals as goal

pub loop-item-init : goal.loop-item-init
loop-item-init c = λ ts h. (ts, h, refl)

pub returns-in_err-truth-clause-meant : goal.returns-in_err-truth-clause-meant
returns-in_err-truth-clause-meant c = λ ts h.
    let inv = c.loop-item.invariant ts h in
    let k = list_first (Locates c.args.bytes.now) c.args.items.now c.loop-item.item-index no_spot c.loop-item-test.true inv.0 inv.1 in
    failed_as c.from_residual.ensures.1 (only_memory (c.in_err-truth.ensures.meant k.first k.holds))

pub returns-then-ne-clause-meant : goal.returns-then-ne-clause-meant
returns-then-ne-clause-meant c = λ ts h.
    let inv = c.loop-item.invariant ts h in
    let k = list_first (Locates c.args.bytes.now) c.args.items.now c.loop-item.item-index no_spot c.loop-item-test.true inv.0 inv.1 in
    grind (arith, known, compare_stops, is_not_false, c.in_ok-truth.ensures.meant, c.ne.ensures, c.if-ne.true)

pub loop-item-preserved : goal.loop-item-preserved
loop-item-preserved c = λ ts h.
    let rights = map value_view c.args.rights.now in
    let inv = c.loop-item.invariant ts h in
    let k = list_first (Locates c.args.bytes.now) c.args.items.now c.loop-item.item-index no_spot c.loop-item-test.true inv.0 inv.1 in (
      k.others,
      k.left,
      inv.2 ∙ ap (λ (l : List Tree). compare c.args.op (flat_map values_of_item l) rights) k.whole
          ∙ compare_passes c.args.op rights (values_of_item k.first) (flat_map values_of_item k.others)
          (sym (c.in_ok-truth.ensures.meant k.first k.holds).ok ∙ is_false c.in_ok-truth.truth (sym c.ne.ensures ∙ c.if-ne.false)),
    )

pub returns-clause-meant : goal.returns-clause-meant
returns-clause-meant c = λ ts h.
    let inv = c.loop-item.invariant ts h in
    known (ap Ok (inv.2 ∙ ap (λ (l : List Tree). compare c.args.op (flat_map values_of_item l) (map value_view c.args.rights.now))
    (list_end (Locates c.args.bytes.now) c.args.items.now c.loop-item.item-index c.loop-item-test.false inv.0 inv.1))) refl
