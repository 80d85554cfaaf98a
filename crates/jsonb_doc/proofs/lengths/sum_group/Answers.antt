use Rattle.jsonb_doc.proofs.Lemmas.{◌≡◌, ℕ, List, [], ◌/◌, ◌∙◌, arith, rules, ap, length, map, sum, first_chunks, lengths_of, lengths_grouped, sum_left, drop_all}
use Rattle.jsonb_doc.proofs.lengths.sum_group.Goals as goal

pub loop-quad-preserved : goal.loop-quad-preserved
loop-quad-preserved c =
    let left = sum_left (lengths_of 4) c.as_chunks.result.0.now c.loop-quad.quad-index [] c.loop-quad-test.true in
    let inv = c.loop-quad.invariant in
    let lens = c.four_lens-lens.ensures in
    record {
      sum = omega (arith, inv.sum, left, lens.sum);
      first = omega (arith, inv.first, lens.bound.0);
      second = omega (arith, inv.second, lens.bound.1);
      third = omega (arith, inv.third, lens.bound.2);
      fourth = omega (arith, inv.fourth, lens.bound.3);
    }

pub returns-clause-sum : goal.returns-clause-sum
returns-clause-sum c =
    let size : length c.args.words.now ≡ 128 = search rules in
    let count : length c.args.words.now / 16 ≡ 8 = omega (arith, size) in
    let quads : c.as_chunks.result.0.now ≡ first_chunks 16 8 c.args.words.now = c.as_chunks.ensures.front ∙ ap (λ (k : ℕ). first_chunks 16 k c.args.words.now) count in
    let none = drop_all c.loop-quad.quad-index c.as_chunks.result.0.now (omega (arith, c.loop-quad-test.false)) in
    omega (
      arith,
      c.loop-quad.invariant.sum,
      ap (λ (q : List (List ℕ)). sum (map (lengths_of 4) q)) none,
      ap (λ (q : List (List ℕ)). sum (map (lengths_of 4) q)) quads,
      lengths_grouped 4 8 c.args.words.now,
    )
