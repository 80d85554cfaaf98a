use Rattle.jsonb.proofs.Lemmas.{sym, ◌∙◌, none_of}
use Rattle.jsonb.proofs.selector.whole_path.is_walked.Goals as goal

pub returns : goal.returns
returns c = λ h. (
  rw (none_of c.only_expression.result (sym c.is_some.ensures ∙ c.if-is_some.false)) at c.only_expression.ensures,
  sym c.is_relative.ensures ∙ c.if-is_relative.false,
)
