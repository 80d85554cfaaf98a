use Rattle.jsonb_doc.proofs.Lemmas.{rules, ℕ, ap, sym, ◌∙◌, FitsSigned, w64, decimal64, number_cmp, short_parts, number_parts, short_number_cmp, digits_tell}
use Rattle.std.proofs.Common.{to_z-of_z}
use Rattle.jsonb_doc.proofs.short_number.short_cmp.Goals as goal

pub returns-then-scale-b : goal.returns-then-scale-b
returns-then-scale-b c =
    let k = c.in-Decimal-Decimal64 in
    let fits : FitsSigned w64 k.a = search rules in
    rw (to_z-of_z fits) at c.cmp-then-scale-b.ensures ∙ digits_tell decimal64 decimal64 k.a k.b.value k.scale
    ∙ ap (λ (s : ℕ). number_cmp (record { variant = decimal64; whole = k.a; scale = k.scale }) (record { variant = decimal64; whole = k.b.value; scale = s }))
    c.if-scale-b.true ∙ (λ i. number_cmp (short_parts (sym k.is-0 i)) (number_parts (sym k.is-1 i))) ∙ sym (short_number_cmp c.args.number c.args.other.now)
