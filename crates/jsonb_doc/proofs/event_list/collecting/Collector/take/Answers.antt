use Rattle.jsonb_doc.proofs.Lemmas.{[], refl, inl, inr, arith, None, text, array_of, object_of, array_begins, object_begins, key_is, value_is, ends, plain_exists, event_due, event_due_anyway, err_is}
use Rattle.jsonb_doc.proofs.event_list.collecting.Collector.take.Goals as goal

pub returns-in_ok-add-in-0-to-6 : goal.returns-in_ok-add-in-0-to-6
returns-in_ok-add-in-0-to-6 c = λ s h.
    let plain = plain_exists c.args.event.now (omega arith) in
    let x = c.in_ok-add-in-0-to-6.ensures s plain.0 h plain.1 in
    (value_is plain.0, x.0, inl (plain.1, refl), x.1, x.2)

pub returns-in_ok-add-in-7 : goal.returns-in_ok-add-in-7
returns-in_ok-add-in-7 c = λ s h.
    let found = c.in_ok-string-in-7 in
    let x = c.in_ok-add-in-7.ensures s (text found.string.now) h refl in
    (value_is (text found.string.now), x.0, inr (found.string.now, c.in-7.is, found.ensures, refl), x.1, x.2)

pub returns-in_ok-key-in-8-2 : goal.returns-in_ok-key-in-8-2
returns-in_ok-key-in-8-2 c = λ s h.
    let found = c.in_ok-key-in-8 in
    let x = c.in_ok-key-in-8-2.ensures c.args.keep_last s h in
    (key_is found.key.now, x.0, (c.in-8.is, found.ensures), x.1, x.2)

pub returns-in_ok-begin-in-9 : goal.returns-in_ok-begin-in-9
returns-in_ok-begin-in-9 c = λ s h.
    let x = c.in_ok-begin-in-9.ensures s (array_of []) h (λ e. cc) (λ ds f kind none. (kind, none, tt)) in
    (array_begins, x.0, (c.in-9.is, refl), x.1, x.2)

pub returns-in_ok-begin-in-10 : goal.returns-in_ok-begin-in-10
returns-in_ok-begin-in-10 c = λ s h.
    let x = c.in_ok-begin-in-10.ensures s (object_of [] None) h (λ e. cc) (λ ds f kind none. (kind, none, tt)) in
    (object_begins, x.0, (c.in-10.is, refl), x.1, x.2)

pub returns-in_ok-end-in-11 : goal.returns-in_ok-end-in-11
returns-in_ok-end-in-11 c = λ s h.
    let x = c.in_ok-end-in-11.ensures s h in
    (ends, x.0, (c.in-11.is, refl), x.1, x.2)

pub returns-in_err-add-in-0-to-6 : goal.returns-in_err-add-in-0-to-6
returns-in_err-add-in-0-to-6 c = λ s h.
    let plain = plain_exists c.args.event.now (omega arith) in
    err_is _ _ _ _ c.from_residual-in_err-add-in-0-to-6.ensures.1
    (event_due_anyway _ _ _ (value_is plain.0) _ s _ (inl (plain.1, refl)) (c.in_err-add-in-0-to-6.ensures s plain.0 h plain.1))

pub returns-in_err-key-in-8-2 : goal.returns-in_err-key-in-8-2
returns-in_err-key-in-8-2 c = λ s h.
    let found = c.in_ok-key-in-8 in
    err_is _ _ _ _ c.from_residual-in_err-key-in-8-2.ensures.1
    (event_due_anyway _ _ _ (key_is found.key.now) _ s _ (c.in-8.is, found.ensures) (c.in_err-key-in-8-2.ensures c.args.keep_last s h))

pub returns-in_err-begin-in-9 : goal.returns-in_err-begin-in-9
returns-in_err-begin-in-9 c = λ s h.
    let due = c.in_err-begin-in-9.ensures s (array_of []) h (λ e. cc) (λ ds f kind none. (kind, none, tt)) in
    err_is _ _ _ _ c.from_residual-in_err-begin-in-9.ensures.1 (event_due_anyway _ _ _ array_begins _ s _ (c.in-9.is, refl) due)

pub returns-in_err-begin-in-10 : goal.returns-in_err-begin-in-10
returns-in_err-begin-in-10 c = λ s h.
    let due = c.in_err-begin-in-10.ensures s (object_of [] None) h (λ e. cc) (λ ds f kind none. (kind, none, tt)) in
    err_is _ _ _ _ c.from_residual-in_err-begin-in-10.ensures.1 (event_due_anyway _ _ _ object_begins _ s _ (c.in-10.is, refl) due)

pub returns-in_err-end-in-11 : goal.returns-in_err-end-in-11
returns-in_err-end-in-11 c = λ s h.
    err_is _ _ _ _ c.from_residual-in_err-end-in-11.ensures.1 (event_due _ _ _ ends _ s _ (c.in-11.is, refl) (c.in_err-end-in-11.ensures s h))

pub returns-in_err-add-in-7 : goal.returns-in_err-add-in-7
returns-in_err-add-in-7 c = λ s h.
    let found = c.in_ok-string-in-7 in
    err_is _ _ _ _ c.from_residual-in_err-add-in-7.ensures.1
    (event_due_anyway _ _ _ (value_is (text found.string.now)) _ s _
    (inr (found.string.now, c.in-7.is, found.ensures, refl)) (c.in_err-add-in-7.ensures s (text found.string.now) h refl))
