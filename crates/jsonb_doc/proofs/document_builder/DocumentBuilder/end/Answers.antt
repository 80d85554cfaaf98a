use Rattle.jsonb_doc.proofs.Lemmas.{◌≡◌, ◌∙◌, ◌++◌, ◌∷◌, [], ℕ, length, reverse, ap, refl, arith, true, false, inl, ◌==◌, vec_len, length-reverse, filled, IsPieceOf, Failed, OutOfMemory, common_steps, level_stays, err_result, end_fails, end_out_of_memory, end_takes, holds_back, holds_inner, popped}
use Rattle.jsonb_doc.proofs.document_builder.DocumentBuilder.end.Goals as goal

pub returns-in_err-piece : goal.returns-in_err-piece
returns-in_err-piece c = λ form s h. grind (arith, common_steps, end_fails)

pub returns-in_err-push : goal.returns-in_err-push
returns-in_err-push c = λ form s h.
    let b = c.args.self.now in
    let some : length (reverse b.around.items) ≡ 0 → ⊥ = λ e.
    let zero : vec_len b.around ≡ 0 = omega (arith, e, length-reverse b.around.items) in
    let bad : false ≡ true = c.if-is_empty.ensures ∙ ap (λ (n : ℕ). n == 0) zero in cc in
    let same = c.in_err-push.ensures.items in
    end_out_of_memory form s _ b.pieces.items c.in_ok-piece.field-0 c.from_residual-in_err-push.result
    (record { inner = rw same h.inner; around = rw same h.around }) h.around some (c.in_ok-piece.ensures form b.pieces.items s.inner h.inner)
    (err_result c.from_residual-in_err-push.result (Failed OutOfMemory) c.from_residual-in_err-push.ensures.1)

pub returns-in-Err : goal.returns-in-Err
returns-in-Err c = λ form s h.
    let ps = c.args.self.now.pieces.items in
    let closed = c.in_ok-piece.field-0 in
    let outer = popped _ _ _ _ s.around h.around c.in-Some.ensures.items in
    let index : c.len-index.result ≡ length ps = omega arith in
    end_takes form s _ ps _ outer.0 outer.1 _ outer.2 outer.3.1 (c.in_ok-piece.ensures form ps s.inner h.inner) (λ t part.
    let part' : IsPieceOf form (ps ++ closed.piece ∷ []) 5 c.len-index.result closed.len t = rw index part in
    let failed = c.in-Err.ensures.filled form (ps ++ closed.piece ∷ []) outer.0 t (level_stays form ps _ _ outer.0 outer.3.0) outer.3.1
    part' (λ e. record { document = inl part'.content }) in (
      holds_back form s _ _ _ _ _ outer.0 outer.1 h c.in_ok-push.ensures.items refl c.push_reserved.ensures.items outer.2 outer.3.1 failed.0 outer.4,
      failed.1,
    ))

pub returns : goal.returns
returns c = λ form s h.
    let ps = c.args.self.now.pieces.items in
    let closed = c.in_ok-piece.field-0 in
    let outer = popped _ _ _ _ s.around h.around c.in-Some.ensures.items in
    let index : c.len-index.result ≡ length ps = omega arith in
    end_takes form s _ ps _ outer.0 outer.1 _ outer.2 outer.3.1 (c.in_ok-piece.ensures form ps s.inner h.inner) (λ t part.
    let part' : IsPieceOf form (ps ++ closed.piece ∷ []) 5 c.len-index.result closed.len t = rw index part in
    let held = c.in_default-fill.ensures.filled form (ps ++ closed.piece ∷ []) outer.0 t (level_stays form ps _ _ outer.0 outer.3.0) outer.3.1
    part' (λ e. record { document = inl part'.content }) in
    holds_inner form ps _ _ _ (filled t outer.0) outer.1 c.in_ok-push.ensures.items refl held outer.4)
