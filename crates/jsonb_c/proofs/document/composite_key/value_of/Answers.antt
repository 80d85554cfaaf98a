use Rattle.std.proofs.Common.{sym, ◌∙◌}
use Rattle.jsonb_c.proofs.MakingLemmas.{value_missing, value_there}
use Rattle.jsonb_c.proofs.document.composite_key.value_of.Goals as goal

pub returns-then-is_empty : goal.returns-then-is_empty
returns-then-is_empty c = λ form value h. value_missing form _ value (sym c.is_empty.ensures ∙ c.if-is_empty.true) h

pub returns : goal.returns
returns c = λ form value h. value_there form c.new.result _ value (sym c.is_empty.ensures ∙ c.if-is_empty.false) c.new.ensures h
