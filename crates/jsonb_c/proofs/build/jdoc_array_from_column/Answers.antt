use Rattle.jsonb_c.proofs.MakingLemmas.{errors_answer}
use Rattle.jsonb_c.specs.Private.Views.{vec_answer}
use Rattle.jsonb_c.proofs.build.jdoc_array_from_column.Goals as goal

pub returns-then-is_placed-clause-array : goal.returns-then-is_placed-clause-array
returns-then-is_placed-clause-array c = λ _. (
  vec_answer c.array_of.result,
  rw c.new-column.ensures at c.array_of.ensures.array,
  errors_answer _ c.array_of.result c.array_of.ensures.errors,
  c.deliver_vec.ensures,
)
