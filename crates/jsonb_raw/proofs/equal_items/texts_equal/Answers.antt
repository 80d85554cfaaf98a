use Rattle.jsonb_raw.proofs.Lemmas.{◌≡◌, Bool, true, false, sym, ◌∙◌, is_equal, are_equal, key_trees, arith, SomeEntries-first, SomeEntries-error, SomeEntries-none}
use Rattle.jsonb_raw.proofs.EntryEquals.{told_none, first_text, texts_by_bytes, entries_ended}
use Rattle.jsonb_raw.proofs.equal_items.texts_equal.Goals as goal

pub returns-in_err-entry-clause-equal : goal.returns-in_err-entry-clause-equal
returns-in_err-entry-clause-equal c = λ form other_form ks ls d e.
    SomeEntries-error form _ _ _ _ _ c.in_err-entry.was c.in-Some.ensures.steps (c.loop-entry.invariant form other_form ks ls d e)

pub returns-in_default-clause-equal : goal.returns-in_default-clause-equal
returns-in_default-clause-equal c = λ form other_form ks ls d e.
    SomeEntries-first form _ _ _ _ _ c.in_ok-entry.was c.in-Some.ensures.steps (c.loop-entry.invariant form other_form ks ls d e)
    (λ first rest left stored fact. (SomeEntries-none other_form _ _ _ c.in_default.ensures.steps fact.1).1)

pub returns-in_err-other-clause-equal : goal.returns-in_err-other-clause-equal
returns-in_err-other-clause-equal c = λ form other_form ks ls d e.
    SomeEntries-first form _ _ _ _ _ c.in_ok-entry.was c.in-Some.ensures.steps (c.loop-entry.invariant form other_form ks ls d e)
    (λ first rest left stored fact. SomeEntries-error other_form _ _ _ _ _ c.in_err-other.was c.in-Some-next.ensures.steps fact.1)

pub returns-then-ne-clause-equal : goal.returns-then-ne-clause-equal
returns-then-ne-clause-equal c = λ form other_form ks ls d e.
    SomeEntries-first form _ _ _ _ _ c.in_ok-entry.was c.in-Some.ensures.steps (c.loop-entry.invariant form other_form ks ls d e)
    (λ first rest left stored fact.
    SomeEntries-first other_form _ _ _ _ _ c.in_ok-other.was c.in-Some-next.ensures.steps fact.1
    (λ second others right means both.
    let differs : is_equal first second
    ≡ false = texts_by_bytes form other_form c.in_ok-entry.entry c.in_ok-other.other first second rest others fact.0 both.0 stored means
    ∙ grind (arith, sym c.if-ne.true ∙ c.ne.ensures) in
    rw differs at both.1))

pub loop-entry-preserved : goal.loop-entry-preserved
loop-entry-preserved c = λ form other_form ks ls d e.
    SomeEntries-first form _ _ _ _ _ c.in_ok-entry.was c.in-Some.ensures.steps (c.loop-entry.invariant form other_form ks ls d e)
    (λ first rest left stored fact.
    SomeEntries-first other_form _ _ _ _ _ c.in_ok-other.was c.in-Some-next.ensures.steps fact.1
    (λ second others right means both.
    let same : is_equal first second
    ≡ true = texts_by_bytes form other_form c.in_ok-entry.entry c.in_ok-other.other first second rest others fact.0 both.0 stored means
    ∙ told_none _ (sym c.if-ne.false ∙ c.ne.ensures) in
    record {
      trees = rest;
      left = left;
      fact = grind (arith, first_text);
    }))

pub returns-clause-equal : goal.returns-clause-equal
returns-clause-equal c = λ form other_form ks ls d e.
    let s = (SomeEntries-none form _ _ _ c.in-None.ensures.steps (c.loop-entry.invariant form other_form ks ls d e)).1 in
    entries_ended other_form _ _ _ _ (λ (b : Bool). b ≡ are_equal (key_trees ks) (key_trees ls)) c.is_none.ensures c.next-2.ensures.steps
    (record { trees = s.trees; left = s.left; fact = s.fact.1 })
