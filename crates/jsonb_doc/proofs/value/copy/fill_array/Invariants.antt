use Rattle.jsonb_doc.proofs.Lemmas.{◌≡◌, ◌≤◌, ◌++◌, iter_rest, trees_seen, values_parts, Number}
use Rattle.jsonb_doc.specs.Number as spec
use Rattle.jsonb_doc.proofs.value.copy.fill_array.Given as goal

-- the copies so far, followed by the values that are left, are the array's
abbrev pub invariant-loop-value : goal.invariant-loop-value
invariant-loop-value l = record {
  same : (seen : Number → spec.Number)
      → trees_seen seen l.copies.items ++ trees_seen seen (iter_rest l.left) ≡ trees_seen seen l.fn.copies.items ++ trees_seen seen (iter_rest l.fn.left);
  fewer : values_parts (iter_rest l.left) ≤ values_parts (iter_rest l.fn.left);
}
