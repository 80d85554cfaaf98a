use Rattle.jsonb.proofs.Lemmas.{two_given}
use Rattle.jsonb.proofs.selector.calculate.binary_number.Goals as goal

pub returns-in-Some-Some-clause-meant : goal.returns-in-Some-Some-clause-meant
returns-in-Some-Some-clause-meant c = λ o is.
    two_given o _ _ c.in-Some-Some.m c.in-Some-Some.n _ c.in-Some-Some.ensures c.in-Some-Some.ensures' (c.calculate.ensures.meant o is)
