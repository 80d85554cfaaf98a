use Rattle.jsonb_raw.proofs.Lemmas.{◌≡◌, true, false, take, true≢false, list_any, false_from_ne_true, elements, is_equal, arith, SomeEntries-first, SomeEntries-error, SomeEntries-none, equals_one}
use Rattle.jsonb_raw.proofs.functions.array.overlap.block_overlaps.Goals as goal

pub returns-in_err-entry-clause-overlap : goal.returns-in_err-entry-clause-overlap
returns-in_err-entry-clause-overlap c = λ form other_form ts us l d marked.
    SomeEntries-error form _ _ _ _ _ c.in_err-entry.was c.in-Some.ensures.steps (c.loop-entry.invariant form other_form ts us l d marked)

pub returns-in_err-find_equal_among-clause-overlap : goal.returns-in_err-find_equal_among-clause-overlap
returns-in_err-find_equal_among-clause-overlap c = λ form other_form ts us l d marked.
    SomeEntries-first form _ _ _ _ _ c.in_ok-entry.was c.in-Some.ensures.steps (c.loop-entry.invariant form other_form ts us l d marked)
    (λ first rest left stored fact. absurd (c.in_err-find_equal_among.ensures.found other_form form us first d stored))

pub returns-then-branch-clause-overlap : goal.returns-then-branch-clause-overlap
returns-then-branch-clause-overlap c = λ form other_form ts us l d marked.
    SomeEntries-first form _ _ _ _ _ c.in_ok-entry.was c.in-Some.ensures.steps (c.loop-entry.invariant form other_form ts us l d marked)
    (λ first rest left stored fact.
    let found : list_any (is_equal first) (take c.args.block.count (elements us)) ≡ true = grind (arith, equals_one) in
    rw found at fact)

-- its hash is free
pub loop-entry-preserved-then-not-may_have : goal.loop-entry-preserved-then-not-may_have
loop-entry-preserved-then-not-may_have c = λ form other_form ts us l d marked.
    SomeEntries-first form _ _ _ _ _ c.in_ok-entry.was c.in-Some.ensures.steps (c.loop-entry.invariant form other_form ts us l d marked)
    (λ first rest left stored fact.
    let missing : list_any (is_equal first) (take c.args.block.count (elements us)) ≡ false = grind (arith, false_from_ne_true, true≢false) in
    record { trees = rest; left = left; fact = rw missing at fact })

pub loop-entry-preserved : goal.loop-entry-preserved
loop-entry-preserved c = λ form other_form ts us l d marked.
    SomeEntries-first form _ _ _ _ _ c.in_ok-entry.was c.in-Some.ensures.steps (c.loop-entry.invariant form other_form ts us l d marked)
    (λ first rest left stored fact.
    let missing : list_any (is_equal first) (take c.args.block.count (elements us)) ≡ false = grind (arith, equals_one) in
    record { trees = rest; left = left; fact = rw missing at fact })

pub returns-clause-overlap : goal.returns-clause-overlap
returns-clause-overlap c = λ form other_form ts us l d marked.
    SomeEntries-none form _ _ _ c.in-None.ensures.steps (c.loop-entry.invariant form other_form ts us l d marked)
