use Rattle.jsonb_doc.proofs.Lemmas.{sym, ap, ◌∙◌, arith, reverse, nil_from_length, tree_seen, filled_tree, with_part, tree_within, tree_within-with}
use Rattle.jsonb_doc.proofs.value.copy.copy.Goals as goal

pub returns-in-None : goal.returns-in-None
returns-in-None c = λ seen. grind (arith, nil_from_length, c.loop-filled.invariant seen)

pub loop-filled-preserved-in_ok-filled-in-Within : goal.loop-filled-preserved-in_ok-filled-in-Within
loop-filled-preserved-in_ok-filled-in-Within c = λ seen.
    tree_within-with seen _ _ _ (filled_tree seen c.in_ok-filled-in-Within.filled) c.in_ok-push-in-Within.ensures.items
    ∙ ap (λ t. tree_within seen (reverse c.loop-filled.around.items) (with_part seen c.in-Within.outer t)) (c.in_ok-filled-in-Within.ensures.copies seen)
    ∙ (rw c.in-Within.is at (c.loop-filled.invariant seen))

pub loop-filled-preserved : goal.loop-filled-preserved
loop-filled-preserved c = λ seen.
    ap (tree_within seen (reverse c.pop.new.self.items)) (c.in_ok-filled-in-Some.ensures.copies seen)
    ∙ sym (tree_within-with seen _ _ _ (tree_seen seen c.in-Whole.copy) c.in-Some.ensures.items) ∙ (rw c.in-Whole.is at (c.loop-filled.invariant seen))
