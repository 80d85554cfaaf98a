use Rattle.jsonb_raw.proofs.functions.array.sets.array_has_root.Goals as goal

pub returns-in_err-array_elements-clause-has : goal.returns-in_err-array_elements-clause-has
returns-in_err-array_elements-clause-has c = λ form other_form ts t d e. absurd (c.in_err-array_elements.ensures.decodes form ts d)

pub returns-clause-has : goal.returns-clause-has
returns-clause-has c = λ form other_form ts t d e.
    c.has_element.ensures.has form other_form ts t (c.in_ok-array_elements.ensures.decodes form ts d) (c.in_ok-root_item.ensures.decodes other_form t e)
