use Rattle.jsonb_doc.proofs.Lemmas.{refl, sym, ap, ◌∙◌, text, number_reader, text_content}
use Rattle.jsonb_doc.proofs.value.decode.read_text.Goals as goal

pub returns-in-Ok-clause-text : goal.returns-in-Ok-clause-text
returns-in-Ok-clause-text c = λ seen form t content.
    c.text_value.ensures seen ∙ ap text c.in-Ok.ensures.cases.0 ∙ sym (text_content (number_reader form) 1 _ t refl content).0

pub returns-in-Err-clause-text : goal.returns-in-Err-clause-text
returns-in-Err-clause-text c = λ seen form t content. absurd (c.in-Err.ensures.cases.0 (text_content (number_reader form) 1 _ t refl content).1)
