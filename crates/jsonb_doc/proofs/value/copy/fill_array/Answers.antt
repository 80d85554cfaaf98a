use Rattle.jsonb_doc.proofs.Lemmas.{◌≡◌, ◌∷◌, ◌++◌, sym, ap, ◌∙◌, arith, nil_from_length, iter_rest, array, trees_of, number_view, tree_seen, trees_seen, tree_parts, values_parts, tree_seen-Array, value_copied, append-nil}
use Rattle.jsonb_doc.proofs.value.copy.fill_array.Goals as goal

pub loop-value-preserved : goal.loop-value-preserved
loop-value-preserved c = record {
  same = λ seen.
      let copied : tree_seen seen c.in-Scalar.copy ≡ tree_seen seen c.in-Some.value.now = rw c.in-Scalar.is at (c.in_ok-part.ensures seen) in
      value_copied seen c.loop-value.copies.items _ c.in-Scalar.copy _ (trees_seen seen (iter_rest c.next.new.self)) c.in_ok-push-in-Scalar.ensures.items copied
      ∙ ap (λ vs. trees_seen seen c.loop-value.copies.items ++ trees_seen seen vs) (sym c.in-Some.ensures.steps) ∙ c.loop-value.invariant.same seen;
  fewer = let all = ap values_parts c.in-Some.ensures.steps in omega (arith, all, c.loop-value.invariant.fewer);
}

pub returns-in_default-2 : goal.returns-in_default-2
returns-in_default-2 c = record {
  copies = λ seen.
      let before = trees_seen seen c.loop-value.copies.items in
      ap (λ t. array (trees_of (before ++ t ∷ trees_seen seen (iter_rest c.next.new.self)))) (c.in_ok-part.ensures seen)
      ∙ ap (λ vs. array (trees_of (before ++ trees_seen seen vs))) (sym c.in-Some.ensures.steps)
      ∙ ap (λ ts. array (trees_of ts)) (c.loop-value.invariant.same seen);
  fewer = omega (arith, ap values_parts c.in-Some.ensures.steps, ap tree_parts (c.in_ok-part.ensures number_view), c.loop-value.invariant.fewer);
}

pub returns-clause-copies : goal.returns-clause-copies
returns-clause-copies c = λ seen.
    let before = trees_seen seen c.loop-value.copies.items in
    let none = nil_from_length (iter_rest c.loop-value.left) c.in_default.ensures.steps.0 in
    tree_seen-Array seen c.loop-value.copies ∙ ap (λ ts. array (trees_of ts)) (sym (append-nil before)
    ∙ ap (λ vs. before ++ trees_seen seen vs) (sym none) ∙ c.loop-value.invariant.same seen)
