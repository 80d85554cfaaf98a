use Rattle.jsonb_doc.proofs.Lemmas.{◌≡◌, ◌+◌, ◌*◌, ◌^◌, ◌≤◌, map, sum, drop, lengths_of}
use Rattle.jsonb_doc.proofs.lengths.sum_group.Given as goal

-- the four sums so far and the lengths that are left make up all lengths
abbrev pub invariant-loop-quad : goal.invariant-loop-quad
invariant-loop-quad l = record {
  sum : l.first + l.second + l.third + l.fourth + sum (map (lengths_of 4) (drop l.quad-index l.quads)) ≡ sum (map (lengths_of 4) l.quads);
  first : l.first ≤ 2 ^ 28 * l.quad-index;
  second : l.second ≤ 2 ^ 28 * l.quad-index;
  third : l.third ≤ 2 ^ 28 * l.quad-index;
  fourth : l.fourth ≤ 2 ^ 28 * l.quad-index;
}
