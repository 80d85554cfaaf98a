use Rattle.jsonb_doc.proofs.Lemmas.{◌≡◌, sym, ap, ◌∙◌, Some, None, arith, none-some, number, any, number_reader, kind_number, kind_below, null_content, false_content, true_content, text_content, number_content, extension_content, some_injective, number_fails}
use Rattle.jsonb_doc.proofs.spot.content.spot_value.Goals as goal

pub returns-in_err-entry-clause-value : goal.returns-in_err-entry-clause-value
returns-in_err-entry-clause-value c = λ t l. absurd (c.in_err-entry.ensures.entry any l.whole t l.decodes l)

pub returns-in-Null-clause-value : goal.returns-in-Null-clause-value
returns-in-Null-clause-value c = λ t l.
    null_content (number_reader any) _ _ t (ap kind_number c.in-Null.is) (c.in_ok-entry.ensures.entry any l.whole t l.decodes l)

pub returns-in-False-clause-value : goal.returns-in-False-clause-value
returns-in-False-clause-value c = λ t l.
    false_content (number_reader any) _ _ t (ap kind_number c.in-False.is) (c.in_ok-entry.ensures.entry any l.whole t l.decodes l)

pub returns-in-True-clause-value : goal.returns-in-True-clause-value
returns-in-True-clause-value c = λ t l.
    true_content (number_reader any) _ _ t (ap kind_number c.in-True.is) (c.in_ok-entry.ensures.entry any l.whole t l.decodes l)

pub returns-in-Text-clause-value : goal.returns-in-Text-clause-value
returns-in-Text-clause-value c = λ t l.
    (text_content (number_reader any) _ _ t (ap kind_number c.in-Text.is) (c.in_ok-entry.ensures.entry any l.whole t l.decodes l)).0

pub returns-in-Ok-clause-value : goal.returns-in-Ok-clause-value
returns-in-Ok-clause-value c = λ t l.
    let found = number_content (number_reader any) _ _ t (ap kind_number c.in-Number.is) (c.in_ok-entry.ensures.entry any l.whole t l.decodes l) in
    found.1 ∙ ap number (some_injective (sym found.2 ∙ c.in-Ok.ensures.value) ∙ c.in-Ok.ensures.normal)

pub returns-in-Err-clause-value : goal.returns-in-Err-clause-value
returns-in-Err-clause-value c = λ t l.
    let found = number_content (number_reader any) _ _ t (ap kind_number c.in-Number.is) (c.in_ok-entry.ensures.entry any l.whole t l.decodes l) in
    let all : None ≡ Some found.0 = sym (number_fails _ c.in-Err.error c.in-Err.ensures.value) ∙ found.2 in absurd (none-some _ all)

pub returns-in-Extension-clause-value : goal.returns-in-Extension-clause-value
returns-in-Extension-clause-value c = λ t l.
    let found = extension_content (number_reader any) _ _ t (ap kind_number c.in-Extension.is) (c.in_ok-entry.ensures.entry any l.whole t l.decodes l) in
    (found.0, found.1)

pub returns-in-Container-clause-value : goal.returns-in-Container-clause-value
returns-in-Container-clause-value c = λ t l.
    c.container_value.ensures.value t (rw (ap kind_number c.in-Container.is) at (c.in_ok-entry.ensures.entry any l.whole t l.decodes l))

pub returns-in-Unknown-clause-value : goal.returns-in-Unknown-clause-value
returns-in-Unknown-clause-value c = λ t l.
    absurd (omega (arith, ap kind_number c.in-Unknown.is, kind_below (number_reader any) t _ _ (c.in_ok-entry.ensures.entry any l.whole t l.decodes l)))
