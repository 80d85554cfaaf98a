use Rattle.jsonb_raw.proofs.Lemmas.{◌++◌, List, ap, sym, subst, length, ◌∙◌, Tree, IsWriting, zero_of, HoldTrees, holding_none}
use Rattle.jsonb_raw.proofs.functions.runs.copy_run.Goals as goal

pub returns-then-is_empty-clause-copied : goal.returns-then-is_empty-clause-copied
returns-then-is_empty-clause-copied c = λ form xs ys coming around whole h w.
    let piece = rw c.in-Some.is at (c.entries_before.ensures h.run_words h.run_contents h.words_joined h.contents_joined) in
    let none = holding_none form _ _ _ xs ys h (ap length (sym piece.0) ∙ zero_of _ c.if-is_empty.ensures) in
    subst (λ (us : List Tree). IsWriting form c.args.writer.now (us ++ coming) around whole) none w

pub returns-clause-copied : goal.returns-clause-copied
returns-clause-copied c = λ form xs ys coming around whole h w.
    let piece = rw c.in-Some.is at (c.entries_before.ensures h.run_words h.run_contents h.words_joined h.contents_joined) in
    c.in_ok-copy.ensures.copied form xs coming around whole
    (subst (HoldTrees form c.in-Some.piece) (sym (h.trees_joined
    ∙ ap (λ (l : List Tree). l ++ h.here) h.held)) (record { entries = rw (piece.0, piece.1) h.run_held })) w
