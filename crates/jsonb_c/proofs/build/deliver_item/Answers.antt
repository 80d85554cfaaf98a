use Rattle.jsonb_c.proofs.MakingLemmas.{encodes, errors_answer}
use Rattle.jsonb_c.specs.Private.Views.{vec_answer}
use Rattle.jsonb_c.proofs.build.deliver_item.Goals as goal

pub returns : goal.returns
returns c = λ t stands. (
  vec_answer c.encode_item.result,
  encodes t c.encode_item.result (λ form. c.encode_item.ensures.decodes form t (stands form)),
  errors_answer _ c.encode_item.result c.encode_item.ensures.errors,
  c.deliver_vec.ensures,
)
