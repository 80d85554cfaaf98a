use Rattle.jsonb_raw.proofs.Lemmas.{arith, List, ℕ, ap, sym, ◌∙◌, Bor, contents_of, decided_by, name_decides, name_leaves, next_left, drop_of_length-le}
use Rattle.jsonb_raw.proofs.functions.path.name_block.each_decides.Goals as goal

pub returns-in_err-has-clause-has : goal.returns-in_err-has-clause-has
returns-in_err-has-clause-has c = λ form ss h seen.
    absurd (c.in_err-has.ensures.has form ss _ h seen (next_left c.args.names.now c.loop-at.at c.loop-at-test.true).0)

pub returns-then-has-found-clause-has : goal.returns-then-has-found-clause-has
returns-then-has-found-clause-has c = λ form ss h seen.
    let next = next_left c.args.names.now c.loop-at.at c.loop-at-test.true in
    name_decides ss _ _ _ c.args.found c.in_ok-has.has c.if-has-found.true (c.in_ok-has.ensures.has form ss _ h seen next.0)
    (ap (decided_by c.args.found ss) (sym next.1) ∙ c.loop-at.invariant form ss h seen)

pub loop-at-preserved : goal.loop-at-preserved
loop-at-preserved c = λ form ss h seen.
    let next = next_left c.args.names.now c.loop-at.at c.loop-at-test.true in
    name_leaves ss _ _ _ c.args.found c.in_ok-has.has c.if-has-found.false (c.in_ok-has.ensures.has form ss _ h seen next.0)
    (ap (decided_by c.args.found ss) (sym next.1) ∙ c.loop-at.invariant form ss h seen)

pub returns-clause-has : goal.returns-clause-has
returns-clause-has c = λ form ss h seen.
    sym (grind arith)
    ∙ ap (λ (xs : List (Bor (List ℕ))). decided_by c.args.found ss (contents_of xs)) (sym (drop_of_length-le c.args.names.now (omega (arith, c.loop-at-test.false))))
    ∙ c.loop-at.invariant form ss h seen
