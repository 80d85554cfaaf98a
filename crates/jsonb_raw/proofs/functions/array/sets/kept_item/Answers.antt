use Rattle.jsonb_raw.proofs.Lemmas.{[], ◌∷◌, arith, failed, KeptLeft-all, KeptLeft-next, KeptLeft-refused, KeptLeft-done, few_before}
use Rattle.jsonb_raw.proofs.functions.array.sets.kept_item.Goals as goal

pub returns-in_err-push_kept-clause-made : goal.returns-in_err-push_kept-clause-made
returns-in_err-push_kept-clause-made c = λ form other t stands f b.
    let fact = KeptLeft-all form c.args.kind c.args.counts other c.new-builder.result (t ∷ []) c.new-builder.ensures (omega arith) (f, tt) b in
    let short = few_before form c.args.kind c.args.counts other c.new-builder.result t [] _ fact in
    failed _ _ _ c.from_residual.ensures.1
    (KeptLeft-refused form c.args.kind c.args.counts other c.new-builder.result t [] _ fact _
    (c.in_err-push_kept.ensures.pushed form other fact.before fact.held t stands f fact.behind short fact.holds))

pub returns-clause-made : goal.returns-clause-made
returns-clause-made c = λ form other t stands f b.
    let fact = KeptLeft-all form c.args.kind c.args.counts other c.new-builder.result (t ∷ []) c.new-builder.ensures (omega arith) (f, tt) b in
    let short = few_before form c.args.kind c.args.counts other c.new-builder.result t [] _ fact in
    rw c.new.ensures
    (c.in_ok-build.ensures.decodes form _
    (KeptLeft-done form c.args.kind c.push_kept.new.counts other c.push_kept.new.builder _
    (KeptLeft-next form c.args.kind c.args.counts other c.new-builder.result t [] _ fact c.push_kept.new.counts c.push_kept.new.builder
    (c.in_ok-push_kept.ensures.behind form other fact.before t stands f fact.behind short)
    (c.in_ok-push_kept.ensures.pushed form other fact.before fact.held t stands f fact.behind short fact.holds))))
