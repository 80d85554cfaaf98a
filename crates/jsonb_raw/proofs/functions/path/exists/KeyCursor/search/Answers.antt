use Rattle.jsonb_raw.proofs.Lemmas.{arith, refl, sym, ◌∙◌, cursor_next, cursor_meets, cursor_misses, cursor_ends, cursor_error}
use Rattle.jsonb_raw.proofs.functions.path.exists.KeyCursor.search.Goals as goal

pub returns-in_err-key-clause-has : goal.returns-in_err-key-clause-has
returns-in_err-key-clause-has c = λ form ks h.
    let n = rw c.loop-entry.invariant.ahead at c.in-Some.ensures.steps in
    cursor_error form ks c.loop-entry.self c.next.new.self (c.loop-entry.invariant.cursor form ks h) c.in-Some.entry _ c.in_err-key.was n

pub returns-in-Equal-clause-has : goal.returns-in-Equal-clause-has
returns-in-Equal-clause-has c = λ form ks h.
    let n = rw c.loop-entry.invariant.ahead at c.in-Some.ensures.steps in
    cursor_meets form ks c.loop-entry.self c.next.new.self
    (c.loop-entry.invariant.cursor form ks h) c.in-Some.entry c.in_ok-key.field-0 c.in_ok-key.was n c.args.name.now c.loop-entry.invariant.passed
    (sym c.bytes_cmp.ensures ∙ c.in-Equal.is)

pub returns-in-Greater-clause-has : goal.returns-in-Greater-clause-has
returns-in-Greater-clause-has c = λ form ks h.
    let n = rw c.loop-entry.invariant.ahead at c.in-Some.ensures.steps in
    cursor_misses form ks c.loop-entry.self c.next.new.self
    (c.loop-entry.invariant.cursor form ks h) c.in-Some.entry c.in_ok-key.field-0 c.in_ok-key.was n c.args.name.now c.loop-entry.invariant.passed
    (sym c.bytes_cmp.ensures ∙ c.in-Greater.is)

pub loop-entry-preserved : goal.loop-entry-preserved
loop-entry-preserved c = record { ahead = refl; passed = sym c.bytes_cmp.ensures ∙ c.in-Less.is; cursor = λ form ks h. grind (arith, cursor_next) }

pub returns-clause-has : goal.returns-clause-has
returns-clause-has c = λ form ks h.
    let n = rw c.loop-entry.invariant.ahead at c.in_default.ensures.steps in
    cursor_ends form ks c.loop-entry.self c.next.new.self (c.loop-entry.invariant.cursor form ks h) n c.args.name.now c.loop-entry.invariant.passed
