use Rattle.jsonb.proofs.Lemmas.{sym, no_condition}
use Rattle.jsonb.proofs.selector.search.has_condition.Goals as goal

pub returns-in_default : goal.returns-in_default
returns-in_default c = sym (no_condition c.args.step.now c.in_default.not-FilterExpr c.in_default.not-Expr)
