use Rattle.jsonb_raw.proofs.Lemmas.{◌∙◌, sym, w32, to_z-of_z, arith, no_field, answered}
use Rattle.jsonb_raw.proofs.functions.path.keyed_child.Goals as goal

pub returns-then-not-is_container-clause-child : goal.returns-then-not-is_container-clause-child
returns-then-not-is_container-clause-child c = λ t m.
    rw (no_field _ t (sym (c.is_container.ensures _ t m) ∙ c.if-not-is_container.true)) tt

pub returns-clause-child : goal.returns-clause-child
returns-clause-child c = λ t m.
    let key = c.as_str.ensures.value ∙ c.in_ok-key.ensures.ok in
    (grind (arith, answered, to_z-of_z w32 c.args.index c.ranges.index, key, c.field_spot.ensures.field t m))
