use Rattle.jsonb_raw.proofs.functions.path.exists.key_exists.Goals as goal

pub returns-in_err-has-clause-has : goal.returns-in_err-has-clause-has
returns-in_err-has-clause-has c = λ form ks s t. absurd (c.in_err-has.ensures.has form ks t)

pub returns-else-left-before-clause-has : goal.returns-else-left-before-clause-has
returns-else-left-before-clause-has c = λ form ks s t. c.in_ok-has.ensures.has form ks t

pub returns-then-is_counting-clause-has : goal.returns-then-is_counting-clause-has
returns-then-is_counting-clause-has c = λ form ks s t. c.in_ok-has.ensures.has form ks t
