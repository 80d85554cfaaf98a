use Rattle.std.proofs.Common.{refl}
use Rattle.jsonb_doc.specs.Events.{ends}
use Rattle.jsonb_c.proofs.builder.jdoc_builder_end.Goals as goal

pub returns : goal.returns
returns c = λ form. c.add.ensures.follows form ends refl
