use Rattle.jsonb_doc.proofs.Lemmas.{◌≡◌, ◌∙◌, ◌++◌, ◌∷◌, [], length, refl, sym, subst, arith, true, Some, length-append, EntryParts, number_reader, IsContent, Decodes, kind_number, bytes_at, State, takes_value, filled, IsPieceOf, HoldsLevel, Piece, Root, content_stands, long_content, root_filled, level_stays, too_long, result_along, err_along, leads, value_taken, holds_more, lone_piece, lone_part}
use Rattle.jsonb_doc.proofs.document_builder.DocumentBuilder.value.Goals as goal

pub returns-in-Root-clause-takes : goal.returns-in-Root-clause-takes
returns-in-Root-clause-takes c = λ form s t h stands.
    let ps = c.args.self.now.pieces.items in
    let p : Piece = record { head = c.in_ok-head.head; rest = c.new-rest.result } in
    let takes : takes_value s.inner ≡ true = sym (c.takes_value.ensures form ps s.inner h.inner) ∙ c.if-not-takes_value.false in
    let index : c.len-index.result ≡ length ps = omega arith in
    let inner : HoldsLevel form ps (Root c.in-Root.field-0) s.inner = rw c.in-Root.is at h.inner in
    let decodes : Decodes form (bytes_at (ps ++ p ∷ []) c.len-index.result) t =
    rw (index, lone_piece ps p c.new-rest.ensures.items) (c.in_ok-head.ensures.decodes form t stands) in
    let held : HoldsLevel form (ps ++ p ∷ []) (Root (Some c.len-index.result)) (filled t s.inner) =
    root_filled form (ps ++ p ∷ []) _ _ t s.inner (level_stays form ps p (Root c.in-Root.field-0) s.inner inner) takes
    (omega (arith, index, length-append ps (p ∷ []))) (λ e. decodes) in
    let after : State = record { inner = filled t s.inner; around = s.around } in
    leads form s after _ _ _ (value_taken s t takes) (holds_more form s _ _ p (filled t s.inner) h c.in_ok-push.ensures.items refl held)

pub returns-then-content_len-gt-MAX_CONTENT-clause-takes : goal.returns-then-content_len-gt-MAX_CONTENT-clause-takes
returns-then-content_len-gt-MAX_CONTENT-clause-takes c = grind (arith, leads, value_taken, too_long, long_content)

pub returns-clause-takes : goal.returns-clause-takes
returns-clause-takes c = λ form s t h stands.
    let b = c.args.self.now in
    let ps = b.pieces.items in
    let p : Piece = record { head = c.in_ok-kind.field-0.content; rest = c.new-rest.result } in
    let takes : takes_value s.inner ≡ true = sym (c.takes_value.ensures form ps s.inner h.inner) ∙ c.if-not-takes_value.false in
    let index : c.len-index.result ≡ length ps = omega arith in
    let size : c.len-len.result ≡ length c.in_ok-kind.field-0.content.items = omega arith in
    let content : IsContent (number_reader form) t (kind_number c.in_ok-kind.field-0.kind) c.in_ok-kind.field-0.content.items =
    subst (λ (q : EntryParts). IsContent (number_reader form) t q.0 q.1) (sym c.in_ok-kind.ensures.0)
    (content_stands form c.args.item.now t stands c.in_ok-kind.ensures.1) in
    let part : IsPieceOf form (ps ++ p ∷ []) (kind_number c.in_ok-kind.field-0.kind) c.len-index.result c.len-len.result t =
    rw (index, size) (lone_part form ps p (kind_number c.in_ok-kind.field-0.kind) t c.new-rest.ensures.items content) in
    let inner = level_stays form ps p b.inner s.inner h.inner in
    let after : State = record { inner = filled t s.inner; around = s.around } in
    leads form s after _ c.fill.result _ (value_taken s t takes)
    (result_along c.fill.result _ _ _ _
    (c.fill.ensures.filled form (ps ++ p ∷ []) s.inner t inner takes part
    (λ is. absurd (grind (arith, rw is at h.inner, c.in_default.not-Root))))
    (λ x held. holds_more form s b _ p (filled t s.inner) h c.in_ok-push-2.ensures.items refl held)
    (λ e failed. (holds_more form s b _ p s.inner h c.in_ok-push-2.ensures.items refl failed.0, failed.1)))

pub returns-clause-kept : goal.returns-clause-kept
returns-clause-kept c = λ form s h.
    let b = c.args.self.now in
    let ps = b.pieces.items in
    let p : Piece = record { head = c.in_ok-kind.field-0.content; rest = c.new-rest.result } in
    err_along c.fill.result _ _ (c.fill.ensures.kept form (ps ++ p ∷ []) s.inner (level_stays form ps p b.inner s.inner h.inner))
    (λ held. holds_more form s b _ p s.inner h c.in_ok-push-2.ensures.items refl held)
