use Rattle.jsonb.proofs.Lemmas.{ap, same_outcome}
use Rattle.jsonb.proofs.selector.members.member_of.Goals as goal

pub returns-in-Some-clause-meant : goal.returns-in-Some-clause-meant
returns-in-Some-clause-meant c = λ top u n s. same_outcome (ap (λ f. f u) (c.in-Some.ensures c.args.mode top)) (c.field.ensures.meant u s)
