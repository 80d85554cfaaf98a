use Rattle.jsonb_raw.proofs.Lemmas.{◌≡◌, false, sym, ◌∙◌, true≢false, list_any, is_one_of, contents_of, false_from_ne_true, SomeTexts-first, SomeTexts-none, names_have, name_among, among_names, none_of_none, one_string}
use Rattle.jsonb_raw.proofs.functions.path.name_block.any_among.Goals as goal

pub returns-in_err-text-clause-has : goal.returns-in_err-text-clause-has
returns-in_err-text-clause-has c = λ form ss h.
    let some = c.loop-text.invariant form ss h in absurd (c.in_err-text.ensures.takes form some.strings some.left)

pub returns-in-Some-find_name-clause-has : goal.returns-in-Some-find_name-clause-has
returns-in-Some-find_name-clause-has c = λ form ss h.
    SomeTexts-first form _ _ (λ left. list_any (is_one_of left) (contents_of c.args.names.now) ≡ list_any (is_one_of ss) (contents_of c.args.names.now))
    (c.loop-text.invariant form ss h) _ (c.in_ok-text.ensures.takes form) c.in-Some.text c.in-Some.is
    (λ rest left fact. rw (among_names c.args.names.now c.in-Some-find_name._at c.in-Some.text.now c.in-Some-find_name.ensures.found)
    at (sym (one_string c.in-Some.text.now rest (contents_of c.args.names.now)) ∙ fact))

pub loop-text-preserved : goal.loop-text-preserved
loop-text-preserved c = λ form ss h.
    SomeTexts-first form _ _ (λ left. list_any (is_one_of left) (contents_of c.args.names.now) ≡ list_any (is_one_of ss) (contents_of c.args.names.now))
    (c.loop-text.invariant form ss h) _ (c.in_ok-text.ensures.takes form) c.in-Some.text c.in-Some.is
    (λ rest left fact.
    let missing : names_have (contents_of c.args.names.now) c.in-Some.text.now ≡ false =
    false_from_ne_true _ (λ e. let name = name_among c.args.names.now c.in-Some.text.now e in
    absurd (true≢false (sym (c.in_default-find_name.ensures.placed (c.requires.placed name.0 c.in-Some.text.now name.1))))) in
    record { strings = rest; left = left; fact = rw missing at (sym (one_string c.in-Some.text.now rest (contents_of c.args.names.now)) ∙ fact) })

pub returns-clause-has : goal.returns-clause-has
returns-clause-has c = λ form ss h.
    sym (none_of_none (contents_of c.args.names.now))
    ∙ SomeTexts-none form _ _ (λ left. list_any (is_one_of left) (contents_of c.args.names.now) ≡ list_any (is_one_of ss) (contents_of c.args.names.now))
    (c.loop-text.invariant form ss h) _ (c.in_ok-text.ensures.takes form) c.in_default.is
