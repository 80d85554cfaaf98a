use Rattle.jsonb_raw.proofs.Lemmas.{◌≡◌, true, false, arith, failed, list_any, is_equal, SomeEntries-first, SomeEntries-error, SomeEntries-none, key_counted}
use Rattle.jsonb_raw.proofs.functions.array.overlap_in.has_counted.Goals as goal

pub returns-in_err-entry-clause-overlap : goal.returns-in_err-entry-clause-overlap
returns-in_err-entry-clause-overlap c = λ form ts us l k f g.
    SomeEntries-error form _ _ _ _ _ c.in_err-entry.was c.in-Some.ensures.steps (c.loop-entry.invariant form ts us l k f g)

pub returns-in_err-write_entry_key-clause-overlap : goal.returns-in_err-write_entry_key-clause-overlap
returns-in_err-write_entry_key-clause-overlap c = λ form ts us l k f g.
    SomeEntries-first form _ _ _ _ _ c.in_ok-entry.was c.in-Some.ensures.steps (c.loop-entry.invariant form ts us l k f g)
    (λ first rest left stored fact. grind (arith, failed))

pub returns-then-has-clause-overlap : goal.returns-then-has-clause-overlap
returns-then-has-clause-overlap c = λ form ts us l k f g.
    SomeEntries-first form _ _ _ _ _ c.in_ok-entry.was c.in-Some.ensures.steps (c.loop-entry.invariant form ts us l k f g)
    (λ first rest left stored fact.
    let found : list_any (is_equal first) us ≡ true = grind (arith, key_counted) in rw found at fact.1)

pub loop-entry-preserved : goal.loop-entry-preserved
loop-entry-preserved c = λ form ts us l k f g.
    SomeEntries-first form _ _ _ _ _ c.in_ok-entry.was c.in-Some.ensures.steps (c.loop-entry.invariant form ts us l k f g)
    (λ first rest left stored fact.
    let missing : list_any (is_equal first) us ≡ false = grind (arith, key_counted) in
    record { trees = rest; left = left; fact = (fact.0.1, rw missing at fact.1) })

pub returns-clause-overlap : goal.returns-clause-overlap
returns-clause-overlap c = λ form ts us l k f g.
    (SomeEntries-none form _ _ _ c.in-None.ensures.steps (c.loop-entry.invariant form ts us l k f g)).1
