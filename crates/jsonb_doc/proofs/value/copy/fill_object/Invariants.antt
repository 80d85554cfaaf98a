use Rattle.jsonb_doc.proofs.Lemmas.{◌≡◌, ◌≤◌, members_seen, entries_parts, insert_pairs, Number}
use Rattle.jsonb_doc.specs.Number as spec
use Rattle.jsonb_doc.proofs.value.copy.fill_object.Given as goal

-- the copies so far, with the members that are left, are the object's
abbrev pub invariant-loop-key : goal.invariant-loop-key
invariant-loop-key l = record {
  same : (seen : Number → spec.Number)
      → insert_pairs (members_seen seen l.left) (members_seen seen l.copies.entries)
      ≡ insert_pairs (members_seen seen l.fn.left) (members_seen seen l.fn.copies.entries);
  fewer : entries_parts l.left ≤ entries_parts l.fn.left;
}
