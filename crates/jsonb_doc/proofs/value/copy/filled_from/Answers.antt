use Rattle.jsonb_doc.proofs.Lemmas.{◌++◌, sym, ap, ◌∙◌, iter_rest, array, trees_of, trees_seen, part_tree, copied_in_order, copies_same, arith}
use Rattle.jsonb_doc.proofs.value.copy.filled_from.Goals as goal

pub returns-in_ok-with_capacity-in-Array-clause-copies : goal.returns-in_ok-with_capacity-in-Array-clause-copies
returns-in_ok-with_capacity-in-Array-clause-copies c = λ seen.
    copies_same seen _ (c.fill_array.ensures.copies seen)
    (ap (λ vs. array (trees_of (trees_seen seen vs ++ trees_seen seen (iter_rest c.iter.result)))) c.in_ok-with_capacity-in-Array.ensures.items
    ∙ ap (λ vs. array (trees_of (trees_seen seen vs))) (c.iter.ensures.rest ∙ c.deref.ensures.value) ∙ ap (part_tree seen) (sym c.in-Array.is))

pub returns-in-Object-clause-copies : goal.returns-in-Object-clause-copies
returns-in-Object-clause-copies c = λ seen. grind (arith, copies_same, copied_in_order, c.fill_object.ensures.copies seen)
