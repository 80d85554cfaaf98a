use Rattle.jsonb.proofs.selector.members.field.Goals as goal

pub returns-in_err-value-clause-meant : goal.returns-in_err-value-clause-meant
returns-in_err-value-clause-meant c = λ t m. absurd (c.in_err-value.ensures.field t m)
