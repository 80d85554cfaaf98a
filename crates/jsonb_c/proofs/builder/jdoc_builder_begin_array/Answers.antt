use Rattle.std.proofs.Common.{refl}
use Rattle.jsonb_doc.specs.Events.{array_begins}
use Rattle.jsonb_c.proofs.builder.jdoc_builder_begin_array.Goals as goal

pub returns : goal.returns
returns c = λ form. c.add.ensures.follows form array_begins refl
