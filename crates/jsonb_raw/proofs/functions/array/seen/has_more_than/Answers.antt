use Rattle.jsonb_raw.proofs.Lemmas.{◌≡◌, cond, sym, arith, is_equal, entry_taken, MoreLeft-found, MoreLeft-next}
use Rattle.jsonb_raw.proofs.functions.array.seen.has_more_than.Goals as goal

pub returns-then-more-equal-clause-more : goal.returns-then-more-equal-clause-more
returns-then-more-equal-clause-more c = λ form other_form ts u h k.
    let i = c.loop-entry.invariant form other_form ts u h k in
    let f = entry_taken form _ i.rest _ _ _ c.in-Some.is (c.in_ok-entry.ensures.first form i.rest i.holds) in
    let told = sym (c.in_ok-stored_equal.ensures.equal form other_form f.t u (record { content = f.is_first.part }) k) in
    let one : c.if-branch.equal ≡ cond (is_equal f.t u) 1 0 = grind arith in
    MoreLeft-found form _ _ _ u _ i _ f.t f.rest f.split one c.if-more-equal.true

pub loop-entry-preserved : goal.loop-entry-preserved
loop-entry-preserved c = λ form other_form ts u h k.
    let i = c.loop-entry.invariant form other_form ts u h k in
    let f = entry_taken form _ i.rest _ _ _ c.in-Some.is (c.in_ok-entry.ensures.first form i.rest i.holds) in
    let told = sym (c.in_ok-stored_equal.ensures.equal form other_form f.t u (record { content = f.is_first.part }) k) in
    let one : c.if-branch.equal ≡ cond (is_equal f.t u) 1 0 = grind arith in
    MoreLeft-next form _ _ _ u _ i _ _ _ f.t f.rest f.split f.is_first.others_hold one (omega (arith, c.if-more-equal.false))
