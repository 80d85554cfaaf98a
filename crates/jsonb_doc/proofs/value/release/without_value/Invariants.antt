use Rattle.jsonb_doc.proofs.Lemmas.{◌≡◌, ◌≤◌, length, values_parts}
use Rattle.jsonb_doc.proofs.value.release.without_value.Given as goal

-- nothing has come in
abbrev pub invariant-loop-last : goal.invariant-loop-last
invariant-loop-last l = record {
  fewer : values_parts l.values.items ≤ values_parts l.fn.values.items;
  same : l.waiting ≡ l.fn.waiting;
}

abbrev pub decreases-loop-last : goal.decreases-loop-last
decreases-loop-last l = length l.values.items
