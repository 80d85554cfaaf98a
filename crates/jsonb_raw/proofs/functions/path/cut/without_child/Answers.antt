use Rattle.jsonb_raw.proofs.Lemmas.{ℕ, [], Vec, Global, err_from_is_err_and, Decodes, IsOutOfMemory, only_ok, zero_of, empty_of, change_child, remove_at, no_more}
use Rattle.jsonb_raw.proofs.functions.path.cut.without_child.Goals as goal

pub returns-then-is_empty-clause-without : goal.returns-then-is_empty-clause-without
returns-then-is_empty-clause-without c = λ form t end n ns led.
    let none = no_more form c.args.inner.now ns led.0 end (empty_of _ (zero_of _ c.if-is_empty.ensures)) led.2 in
    rw none (c.container_of_others.ensures.container form _ _ _ n (change_child n (remove_at []) t) led.1.keys_hold led.1.front_hold led.1.after_hold led.1.passed
    (led.1.makes []))

pub returns-in_err-writer-clause-without : goal.returns-in_err-writer-clause-without
returns-in_err-writer-clause-without c = λ form t end n ns led.
    let e = err_from_is_err_and c.from_residual.result c.from_residual.ensures.1 in
    rw (e.1, e.2) (c.in_err-writer.ensures.written form t end n ns led)

pub returns-clause-without : goal.returns-clause-without
returns-clause-without c = λ form t end n ns led.
    let whole = change_child n (remove_at ns) t in
    let closed = c.in_ok-close_all.ensures.closed form whole (c.in_ok-writer.ensures.written form t end n ns led) in
    only_ok (λ (made : Vec ℕ Global). Decodes form made.items whole) IsOutOfMemory c.finish.result (c.finish.ensures.written form whole closed)
