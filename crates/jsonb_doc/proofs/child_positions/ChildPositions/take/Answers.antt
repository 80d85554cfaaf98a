use Rattle.jsonb_doc.proofs.Lemmas.{◌<◌, arith, first_value, first_key, element_taken, member_taken}
use Rattle.jsonb_doc.proofs.child_positions.ChildPositions.take.Goals as goal

pub returns-in_err-value-clause-child : goal.returns-in_err-value-clause-child
returns-in_err-value-clause-child c = λ t h.
    let f = first_value c.args.bytes.now c.args.self.now (omega (arith, c.if-self-eq0.false)) t h in
    absurd (c.in_err-value.ensures.first f.t f.ts f.value)

pub returns-then-self-eq0-2-clause-child : goal.returns-then-self-eq0-2-clause-child
returns-then-self-eq0-2-clause-child c = λ t h.
    element_taken _ _ (omega (arith, c.if-self-eq0.false)) _ _ c.in_ok-value.ensures.first t c.if-self-eq0-2.true h

pub returns-in_err-key-clause-child : goal.returns-in_err-key-clause-child
returns-in_err-key-clause-child c = λ t h.
    let f = first_key c.args.bytes.now c.args.self.now (omega (arith, c.if-self-eq0.false)) t (omega (arith, c.if-self-eq0-2.false)) h in
    absurd (c.in_err-key.ensures.first f.t f.ts f.key)

pub returns-clause-child : goal.returns-clause-child
returns-clause-child c = λ t h.
    let some : 0 < c.args.self.now.left = omega (arith, c.if-self-eq0.false) in
    let word : 0 < c.args.self.now.keys.word = omega (arith, c.if-self-eq0-2.false) in
    member_taken _ _ some _ _ c.in_ok-value.ensures.first _ _ c.in_ok-key.ensures.first t word (omega (arith, c.in_ok-key.ensures.later)) h
