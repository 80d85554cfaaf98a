use Rattle.jsonb_doc.proofs.Lemmas.{◌≡◌, refl, number_parts, number_view, value_parts, sees_normal, if_answered, arith, arith}
use Rattle.jsonb_doc.proofs.value.decode.to_value.Goals as goal

pub returns-clause-decodes : goal.returns-clause-decodes
returns-clause-decodes c = λ form t stands. c.item_value.ensures.decodes number_view (λ n normal. refl) (grind arith) form t stands

pub returns-clause-parts : goal.returns-clause-parts
returns-clause-parts c = λ form t stands normal.
    let sees = sees_normal number_parts (λ n h. h) _ c.args.item.now refl normal in
    if_answered (λ v. value_parts v ≡ t) _ (c.item_value.ensures.decodes number_parts (λ n h. h) sees form t stands)
