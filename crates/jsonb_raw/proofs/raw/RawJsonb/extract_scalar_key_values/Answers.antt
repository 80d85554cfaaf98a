use Rattle.jsonb_raw.proofs.Lemmas.{value_tree, value_parts, if_answered, values_found}
use Rattle.jsonb_raw.proofs.raw.RawJsonb.extract_scalar_key_values.Goals as goal

pub returns-clause-leaves : goal.returns-clause-leaves
returns-clause-leaves c = λ form t d.
    values_found value_tree (λ value u is. is.0) c.leaves_within.result _
    (c.leaves_within.ensures.leaves form t (c.in_ok-root_item.ensures.decodes form t (rw c.as_bytes.ensures d)))

pub returns-clause-parts : goal.returns-clause-parts
returns-clause-parts c = λ form t d.
    if_answered _ c.leaves_within.result (values_found value_parts (λ value u is. is.1) c.leaves_within.result _
    (c.leaves_within.ensures.leaves form t (c.in_ok-root_item.ensures.decodes form t (rw c.as_bytes.ensures d))))
