use Rattle.jsonb_doc.proofs.Lemmas.{◌≡◌, refl, number_parts, number_view, value_parts, if_answered}
use Rattle.jsonb_doc.proofs.entry_iter.StoredEntry.to_value.Goals as goal

pub returns-clause-decodes : goal.returns-clause-decodes
returns-clause-decodes c = λ form t content. c.entry_value.ensures.decodes number_view (λ n normal. refl) form t (record { content = content })

pub returns-clause-parts : goal.returns-clause-parts
returns-clause-parts c = λ form t content.
    if_answered (λ v. value_parts v ≡ t) _ (c.entry_value.ensures.decodes number_parts (λ n h. h) form t (record { content = content }))
