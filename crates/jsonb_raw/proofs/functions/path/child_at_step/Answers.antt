use Rattle.jsonb_raw.proofs.Lemmas.{rules, inl, inr, w32, SFits, to_z-of_z, field_of, SameOption, Locates, passed, plain_met, quoted_met, answered}
use Rattle.jsonb_raw.proofs.functions.path.child_at_step.Goals as goal

pub returns-in-Index-clause-child : goal.returns-in-Index-clause-child
returns-in-Index-clause-child c = λ t m.
    let fits : SFits w32 c.in-Index.index = search rules in
    rw c.in-Index.is (passed _ _ c.in-Index.index t _ (to_z-of_z w32 c.in-Index.index fits) (c.indexed_child.ensures.child t (rw c.spot_by_parts.ensures m)))

pub returns-in-QuotedName-clause-child : goal.returns-in-QuotedName-clause-child
returns-in-QuotedName-clause-child c = λ t m.
    let said = answered (λ found. SameOption (Locates c.args.bytes.now) found (field_of c.as_str.result.now t)) c.field_spot.result
    (c.field_spot.ensures.field t m) in
    elim c.in-QuotedName.is [
      | inl is ↦ rw (is, quoted_met _ t, ← c.as_str.ensures.value) said
      | inr is ↦ rw (is, plain_met _ t, ← c.as_str.ensures.value) said
    ]
