use Rattle.jsonb_doc.proofs.Lemmas.{◌≡◌, ◌+◌, ◌*◌, ◌^◌, ◌≤◌, map, sum, drop, lengths_of}
use Rattle.jsonb_doc.proofs.lengths.sum_groups.Given as goal

-- the length so far and those that are left make up all lengths
abbrev pub invariant-loop-group : goal.invariant-loop-group
invariant-loop-group l = record {
  sum : l.len + sum (map (lengths_of 32) (drop l.group-index l.groups)) ≡ sum (map (lengths_of 32) l.groups);
  bound : l.len ≤ 2 ^ 33 * l.group-index;
}
