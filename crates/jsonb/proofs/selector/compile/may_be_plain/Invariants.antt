use Rattle.jsonb.proofs.Lemmas.{parts}
use Rattle.jsonb.proofs.selector.compile.may_be_plain.Given as goal

abbrev pub decreases-loop-rest : goal.decreases-loop-rest
decreases-loop-rest l = parts l.rest
