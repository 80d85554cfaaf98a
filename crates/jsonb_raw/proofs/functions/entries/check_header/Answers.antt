use Rattle.jsonb_raw.proofs.Lemmas.{◌≡◌, inl, inr, subst, ap, arith, ℕ, number_reader, header_number, HasContent-kind, headed, IsHeaded}
use Rattle.jsonb_raw.proofs.functions.entries.check_header.Goals as goal

pub returns-in_default-clause-decodes : goal.returns-in_default-clause-decodes
returns-in_default-clause-decodes c = λ form t content. absurd (headed form t c.args.content.now content c.in_default.ensures)

pub returns-in-Scalar-clause-decodes : goal.returns-in-Scalar-clause-decodes
returns-in-Scalar-clause-decodes c = λ form t content.
    let is = ap header_number c.in-Scalar.is in
    elim (HasContent-kind (number_reader form) _ _ _ _ c.in-Some.ensures (t, content)) [ inl e ↦ absurd (omega arith) | inr e ↦ absurd (omega arith) ]

pub returns-in-Array-clause-headed : goal.returns-in-Array-clause-headed
returns-in-Array-clause-headed c =
    let is : header_number c.in-Some.kind ≡ 4 = ap header_number c.in-Array.is in
    inl (subst (λ (k : ℕ). IsHeaded k c.args.content.now) is (_, _, c.in-Some.ensures))

pub returns-in-Object-clause-headed : goal.returns-in-Object-clause-headed
returns-in-Object-clause-headed c =
    let is : header_number c.in-Some.kind ≡ 2 = ap header_number c.in-Object.is in
    inr (subst (λ (k : ℕ). IsHeaded k c.args.content.now) is (_, _, c.in-Some.ensures))
