use Rattle.jsonb_doc.proofs.Lemmas.{rules, ◌∙◌, ap, refl, sym, inl, with_inner, key_repeats, key_added, leads, refuses, err_result}
use Rattle.jsonb_doc.proofs.document_builder.DocumentBuilder.key.Goals as goal

pub returns-then-contains_key : goal.returns-then-contains_key
returns-then-contains_key c = search (rules, key_repeats, refuses)

pub returns-in_err-from_str : goal.returns-in_err-from_str
returns-in_err-from_str c = λ form s h.
    let inner = rw c.in-Object.is at h.inner in
    let added = key_added form c.args.self.now.pieces.items c.in-Object.members c.in-Object.key c.args.name.now s.inner inner
    (sym c.is_some.ensures ∙ c.if-is_some.false) (sym c.if-contains_key.ensures) c.utf8.name in
    leads form s (record { inner = added.0; around = s.around }) _ c.from_residual.result _ (ap (with_inner s.around) added.1)
    (rw (err_result c.from_residual.result _ c.from_residual.ensures.1) (record { inner = inner; around = h.around }, inl refl))

pub returns : goal.returns
returns c = λ form s h.
    let inner = rw c.in-Object.is at h.inner in
    let added = key_added form c.args.self.now.pieces.items c.in-Object.members c.in-Object.key c.args.name.now s.inner inner
    (sym c.is_some.ensures ∙ c.if-is_some.false) (sym c.if-contains_key.ensures) c.utf8.name in
    leads form s (record { inner = added.0; around = s.around }) _ _ _ (ap (with_inner s.around) added.1)
    (record { inner = added.2 c.in_ok-from_str.field-0 c.in_ok-from_str.ensures.ok; around = h.around })
