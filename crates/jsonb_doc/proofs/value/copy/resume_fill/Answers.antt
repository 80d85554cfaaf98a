use Rattle.jsonb_doc.proofs.Lemmas.{string_bytes, refl, sym, ap, ◌∙◌, iter_rest, array, object, trees_of, pairs_of, tree_seen, trees_seen, members_seen, insert_pairs, with_part, value_copied, member_copied, copies_same}
use Rattle.jsonb_doc.proofs.value.copy.resume_fill.Goals as goal

pub returns-in_ok-push-in-Array-clause-copies : goal.returns-in_ok-push-in-Array-clause-copies
returns-in_ok-push-in-Array-clause-copies c = λ seen.
    let t = tree_seen seen c.args.copy in
    copies_same seen _ (c.fill_array.ensures.copies seen)
    (ap (λ ts. array (trees_of ts)) (value_copied seen _ _ _ t (trees_seen seen (iter_rest c.in-Array.left)) c.in_ok-push-in-Array.ensures.items refl)
    ∙ ap (λ o. with_part seen o t) (sym c.in-Array.is))

pub returns-in_ok-insert-in-Object-clause-copies : goal.returns-in_ok-insert-in-Object-clause-copies
returns-in_ok-insert-in-Object-clause-copies c = λ seen.
    let t = tree_seen seen c.args.copy in
    copies_same seen _ (c.fill_object.ensures.copies seen) (ap (λ ps. object (pairs_of (insert_pairs (members_seen seen c.in-Object.left) ps)))
    (member_copied seen _ _ _ _ (string_bytes c.in-Object.key.now) t c.in_ok-insert-in-Object.ensures.entries c.in_ok-clone-in-Object.ensures.cases refl)
    ∙ ap (λ o. with_part seen o t) (sym c.in-Object.is))
