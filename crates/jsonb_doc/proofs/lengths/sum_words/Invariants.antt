use Rattle.jsonb_doc.proofs.Lemmas.{◌≡◌, ◌+◌, ◌*◌, ◌^◌, ◌≤◌, map, sum, drop, told}
use Rattle.jsonb_doc.proofs.lengths.sum_words.Given as goal

-- the length so far and those that are left make up all lengths
abbrev pub invariant-loop-word : goal.invariant-loop-word
invariant-loop-word l = record {
  sum : l.len + sum (map told (drop l.word-index l.chunks)) ≡ sum (map told l.chunks);
  bound : l.len ≤ 2 ^ 28 * l.word-index;
}
