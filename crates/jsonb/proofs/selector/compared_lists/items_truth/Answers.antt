use Rattle.jsonb.proofs.Lemmas.{Ok, refl, ap, sym, ◌∙◌, Locates, items_truth, Lax, arith, failed_as, known, value_is, is_false, is_not_false, list_passes, list_stops, list_none, no_spot, list_first, list_end}
use Rattle.jsonb.proofs.ListLemmas.{list_refused}
use Rattle.jsonb.proofs.selector.compared_lists.items_truth.Goals as goal

pub loop-item-init : goal.loop-item-init
loop-item-init c = λ e top ts k a. (ts, a, refl)

pub returns-in_err-truth-clause-meant : goal.returns-in_err-truth-clause-meant
returns-in_err-truth-clause-meant c = λ e top ts k a.
    let inv = c.loop-item.invariant e top ts k a in
    let f = list_first (Locates c.args.bytes.now) c.args.items.now c.loop-item.item-index no_spot c.loop-item-test.true inv.0 inv.1 in
    failed_as c.from_residual.ensures.1 (list_refused c.args.comparison.now e top k f.first (c.in_err-truth.ensures.meant e Lax top f.first k (c.compared_member-found.ensures.meant top f.first k.members f.holds)))

pub returns-then-ne-clause-meant : goal.returns-then-ne-clause-meant
returns-then-ne-clause-meant c = λ e top ts k a.
    let inv = c.loop-item.invariant e top ts k a in
    let f = list_first (Locates c.args.bytes.now) c.args.items.now c.loop-item.item-index no_spot c.loop-item-test.true inv.0 inv.1 in
    known (inv.2 ∙ ap (items_truth c.args.comparison.now top) f.whole
    ∙ list_stops c.args.comparison.now e top k f.first f.others c.in_ok-truth.truth (value_is (c.in_ok-truth.ensures.meant e Lax top f.first k (c.compared_member-found.ensures.meant top f.first k.members f.holds)).ok)
    (is_not_false c.in_ok-truth.truth (sym c.ne.ensures ∙ c.if-ne.true))) refl

pub loop-item-preserved : goal.loop-item-preserved
loop-item-preserved c = λ e top ts k a.
    let inv = c.loop-item.invariant e top ts k a in
    let f = list_first (Locates c.args.bytes.now) c.args.items.now c.loop-item.item-index no_spot c.loop-item-test.true inv.0 inv.1 in (
      f.others,
      f.left,
      inv.2 ∙ ap (items_truth c.args.comparison.now top) f.whole
          ∙ list_passes c.args.comparison.now e top k f.first f.others
          (value_is (c.in_ok-truth.ensures.meant e Lax top f.first k (c.compared_member-found.ensures.meant top f.first k.members f.holds)).ok ∙ ap Ok (is_false c.in_ok-truth.truth (sym c.ne.ensures ∙ c.if-ne.false))),
    )

pub returns-clause-meant : goal.returns-clause-meant
returns-clause-meant c = λ e top ts k a. grind (arith, known, list_none, list_end, c.loop-item.invariant e top ts k a, c.loop-item-test.false)
