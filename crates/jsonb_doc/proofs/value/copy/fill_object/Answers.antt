use Rattle.jsonb_doc.proofs.Lemmas.{string_bytes, sym, ap, ◌∙◌, arith, members_seen, entries_parts, insert_pairs, member_copied}
use Rattle.jsonb_doc.proofs.value.copy.fill_object.Goals as goal

pub loop-key-preserved : goal.loop-key-preserved
loop-key-preserved c = record {
  same = λ seen.
      ap (insert_pairs (members_seen seen c.next.new.self)) (member_copied seen _ _ _ _ (string_bytes c.in-Some.key.now) _
      c.in_ok-insert-in-Scalar.ensures.entries c.in_ok-clone-in-Scalar.ensures.cases (rw c.in-Scalar.is at (c.in_ok-part.ensures seen)))
      ∙ ap (λ es. insert_pairs (members_seen seen es) (members_seen seen c.loop-key.copies.entries)) (sym c.in-Some.ensures.steps)
      ∙ c.loop-key.invariant.same seen;
  fewer = let all = ap entries_parts c.in-Some.ensures.steps in omega (arith, all, c.loop-key.invariant.fewer);
}
