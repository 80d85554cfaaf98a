use Rattle.jsonb_c.proofs.cursor.child_spans.Goals as goal

pub returns-in_err-key-clause-spans : goal.returns-in_err-key-clause-spans
returns-in_err-key-clause-spans c = λ form top t name d k v. absurd (c.in_err-key.ensures.span form top name d k)

pub returns-in_err-value-clause-spans : goal.returns-in_err-value-clause-spans
returns-in_err-value-clause-spans c = λ form top t name d k v. absurd (c.in_err-value.ensures.span form top t d v)

pub returns-clause-spans : goal.returns-clause-spans
returns-clause-spans c = λ form top t name d k v. (c.in_ok-key.ensures.span form top name d k, c.in_ok-value.ensures.span form top t d v)
