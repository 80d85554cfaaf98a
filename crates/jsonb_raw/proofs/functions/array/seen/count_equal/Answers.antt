use Rattle.jsonb_raw.proofs.Lemmas.{◌≡◌, ◌+◌, cond, true, false, refl, sym, ◌∙◌, arith, is_equal, entry_taken, EqualLeft-next, take_zero}
use Rattle.jsonb_raw.proofs.functions.array.seen.count_equal.Goals.{then-branch, else-branch}
use Rattle.jsonb_raw.proofs.functions.array.seen.count_equal.Goals as goal

pub returns-in_err-entry-clause-count : goal.returns-in_err-entry-clause-count
returns-in_err-entry-clause-count c = λ form other_form ts u h k.
    let i = c.loop-more.invariant.left form other_form ts u h k in
    absurd (c.in_err-entry.ensures.first form i.rest i.holds)

pub returns-in_err-stored_equal-clause-count : goal.returns-in_err-stored_equal-clause-count
returns-in_err-stored_equal-clause-count c = λ form other_form ts u h k.
    let i = c.loop-more.invariant.left form other_form ts u h k in
    let f = entry_taken form _ i.rest _ _ _ c.in-Some.is (c.in_ok-entry.ensures.first form i.rest i.holds) in
    absurd (c.in_err-stored_equal.ensures.equal form other_form f.t u (record { content = f.is_first.part }) k)

pub loop-more-preserved : goal.loop-more-preserved
loop-more-preserved c = record {
  bound = elim c.if-branch.branch [
    | then-branch w ↦ rw w.equal-is (omega (arith, c.loop-more.invariant.bound, c.loop-more-test.true))
    | else-branch w ↦ rw w.equal-is (omega (arith, c.loop-more.invariant.bound, c.loop-more-test.true))
  ];
  left = λ form other_form ts u h k.
      let i = c.loop-more.invariant.left form other_form ts u h k in
      let f = entry_taken form _ i.rest _ _ _ c.in-Some.is (c.in_ok-entry.ensures.first form i.rest i.holds) in
      let told = sym (c.in_ok-stored_equal.ensures.equal form other_form f.t u (record { content = f.is_first.part }) k) in
      let now : c.if-branch.equal ≡ c.loop-more.equal + cond (is_equal f.t u) 1 0 =
      elim c.if-branch.branch [
        | then-branch w ↦ let same : is_equal f.t u ≡ true = told ∙ w.if-branch.true in rw (same, w.equal-is) refl
        | else-branch w ↦ let differs : is_equal f.t u ≡ false = told ∙ w.if-branch.false in rw (differs, w.equal-is) (omega arith)
      ] in
      EqualLeft-next form _ _ _ u _ i _ _ f.t f.rest f.split f.is_first.others_hold c.loop-more-test.true now;
}

pub returns-clause-count : goal.returns-clause-count
returns-clause-count c = λ form other_form ts u h k.
    let i = c.loop-more.invariant.left form other_form ts u h k in
    (let j : _ + 0 ≡ _ = rw (take_zero _ i.rest c.loop-more-test.false) at i.joined in omega (arith, j))
