use Rattle.jsonb_raw.proofs.Lemmas.{List, ℕ, subst, AreSortedKeys, IsAboveLast, text_first}
use Rattle.jsonb_raw.proofs.functions.operator.stripping.check_keys.Goals as goal

pub returns-then-not-is_above-clause-sorted : goal.returns-then-not-is_above-clause-sorted
returns-then-not-is_above-clause-sorted c = λ form ks h sorted.
    let i = c.loop-key.invariant form ks h sorted in
    let k = text_first form _ i.0 _ _ _ c.in-Some.is (c.in_ok-key.ensures.first form _ i.1) in
    absurd (cc (c.is_above.ensures k.rest (subst (λ (names : List (List ℕ)). IsAboveLast c.loop-key.last names) k.split i.3), c.if-not-is_above.true))

pub loop-key-preserved : goal.loop-key-preserved
loop-key-preserved c = λ form ks h sorted.
    let i = c.loop-key.invariant form ks h sorted in
    let k = text_first form _ i.0 _ _ _ c.in-Some.is (c.in_ok-key.ensures.first form _ i.1) in
    let rising = subst AreSortedKeys k.split i.2 in (k.rest, k.is_first.others_hold, rising.1, rising.0)
