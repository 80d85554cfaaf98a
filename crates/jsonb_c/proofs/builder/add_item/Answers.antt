use Rattle.std.proofs.Common.{refl}
use Rattle.jsonb_doc.specs.Events.{value_is}
use Rattle.jsonb_c.proofs.builder.add_item.Goals as goal

pub returns : goal.returns
returns c = λ form t stands. c.add.ensures.follows form (value_is t) (t, refl, stands)
