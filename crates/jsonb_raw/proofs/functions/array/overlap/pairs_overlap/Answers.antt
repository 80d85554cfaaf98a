use Rattle.jsonb_raw.proofs.Lemmas.{◌≡◌, true, false, list_any, elements, is_equal, arith, SomeEntries-first, SomeEntries-error, SomeEntries-none, equals_one}
use Rattle.jsonb_raw.proofs.functions.array.overlap.pairs_overlap.Goals as goal

pub returns-in_err-entry-clause-overlap : goal.returns-in_err-entry-clause-overlap
returns-in_err-entry-clause-overlap c = λ form other_form ts us l d.
    SomeEntries-error form _ _ _ _ _ c.in_err-entry.was c.in-Some.ensures.steps (c.loop-entry.invariant form other_form ts us l d)

pub returns-in_err-find_equal-clause-overlap : goal.returns-in_err-find_equal-clause-overlap
returns-in_err-find_equal-clause-overlap c = λ form other_form ts us l d.
    SomeEntries-first form _ _ _ _ _ c.in_ok-entry.was c.in-Some.ensures.steps (c.loop-entry.invariant form other_form ts us l d)
    (λ first rest left stored fact. absurd (c.in_err-find_equal.ensures.found other_form form us first d stored))

pub returns-then-branch-clause-overlap : goal.returns-then-branch-clause-overlap
returns-then-branch-clause-overlap c = λ form other_form ts us l d.
    SomeEntries-first form _ _ _ _ _ c.in_ok-entry.was c.in-Some.ensures.steps (c.loop-entry.invariant form other_form ts us l d)
    (λ first rest left stored fact.
    let found : list_any (is_equal first) (elements us) ≡ true = grind (arith, equals_one) in rw found at fact)

pub loop-entry-preserved : goal.loop-entry-preserved
loop-entry-preserved c = λ form other_form ts us l d.
    SomeEntries-first form _ _ _ _ _ c.in_ok-entry.was c.in-Some.ensures.steps (c.loop-entry.invariant form other_form ts us l d)
    (λ first rest left stored fact.
    let missing : list_any (is_equal first) (elements us) ≡ false = grind (arith, equals_one) in
    record { trees = rest; left = left; fact = rw missing at fact })

pub returns-clause-overlap : goal.returns-clause-overlap
returns-clause-overlap c = λ form other_form ts us l d.
    SomeEntries-none form _ _ _ c.in-None.ensures.steps (c.loop-entry.invariant form other_form ts us l d)
