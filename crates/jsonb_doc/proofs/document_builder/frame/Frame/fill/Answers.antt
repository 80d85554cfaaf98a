use Rattle.jsonb_doc.proofs.Lemmas.{sym, inl, subst, Some, Option, String, Global, HoldsLevel, IsEntryOf, filled, object_filled, object_named, object_same, both, result_along, zip_more, arith, arith}
use Rattle.jsonb_doc.specs.declared.document_builder.frame.Frame.TheVariants.{Object}
use Rattle.jsonb_doc.proofs.document_builder.frame.Frame.fill.Goals as goal

pub returns-in_ok-push-in-Array-clause-filled : goal.returns-in_ok-push-in-Array-clause-filled
returns-in_ok-push-in-Array-clause-filled c = λ form ps level t h takes part decodes.
    let made = c.in_ok-new-in-Array.ensures in
    let entry : IsEntryOf form ps c.in_ok-new-in-Array.field-0 t = rw (made.0, made.1, made.2) part in
    (grind (arith, zip_more, rw c.in-Array.is at h, c.in_ok-push-in-Array.ensures.items))

pub returns-in_ok-new-in-Object-clause-filled : goal.returns-in_ok-new-in-Object-clause-filled
returns-in_ok-new-in-Object-clause-filled c = λ form ps level t h takes part decodes.
    let members = c.in-Object.members in
    let key = c.in-Object.key in
    let new = c.push_member.new.members in
    let held : HoldsLevel form ps (Object members key) level = rw c.in-Object.is at h in
    let made = c.in_ok-new-in-Object.ensures in
    let e = c.in_ok-new-in-Object.field-0 in
    let entry : IsEntryOf form ps e t = rw (made.0, made.1, made.2) part in
    let named = object_named form ps members key level held takes in
    let held_by : HoldsLevel form ps (Object members (Some named.0)) level =
    subst (λ (k : Option (String Global)). HoldsLevel form ps (Object members k) level) named.1 held in
    result_along c.push_member.result _ _ _ _ (both c.push_member.result _ _ _ (c.push_member.ensures.pushed named.0 named.1) c.push_member.ensures.kept)
    (λ x h. subst (λ (k : Option (String Global)). HoldsLevel form ps (Object new k) (filled t level)) (sym h.1)
    (object_filled form ps members new named.0 e t level held_by h.0 entry))
    (λ e h. (subst (λ (k : Option (String Global)). HoldsLevel form ps (Object new k) level) (sym h.1.1) (object_same form ps members new key level held h.1.0), inl h.0))
