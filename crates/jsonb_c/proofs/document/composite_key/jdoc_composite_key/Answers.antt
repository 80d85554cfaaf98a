use Rattle.jsonb_doc.specs.Answer.{IsDecodingError, ◌or◌}
use Rattle.jsonb_doc.specs.declared.error.Error.TheVariants.{OutOfMemory, TooDeep}
use Rattle.jsonb_c.specs.Private.Views.{vec_answer}
use Rattle.jsonb_c.proofs.MakingLemmas.{errors_answer}
use Rattle.jsonb_c.proofs.document.composite_key.jdoc_composite_key.Goals as goal

pub returns-then-is_placed-clause-key : goal.returns-then-is_placed-clause-key
returns-then-is_placed-clause-key c = λ placed. (
  vec_answer c.composite_key.result,
  λ form values a. c.composite_key.ensures.key form values (rw c.new-column.ensures a),
  errors_answer (IsDecodingError or OutOfMemory or TooDeep) c.composite_key.result c.composite_key.ensures.errors,
  c.deliver_vec.ensures,
)
