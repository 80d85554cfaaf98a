use Rattle.jsonb_raw.proofs.Lemmas.{ap, sym, length, ◌∙◌, zero_of, holding_none}
use Rattle.jsonb_raw.proofs.functions.runs.push_run.Goals as goal

pub returns-then-is_empty-clause-pushed : goal.returns-then-is_empty-clause-pushed
returns-then-is_empty-clause-pushed c = λ form xs ys h.
    let piece = rw c.in-Some.is at (c.entries_before.ensures h.run_words h.run_contents h.words_joined h.contents_joined) in
    holding_none form _ _ _ xs ys h (ap length (sym piece.0) ∙ zero_of _ c.if-is_empty.ensures)
