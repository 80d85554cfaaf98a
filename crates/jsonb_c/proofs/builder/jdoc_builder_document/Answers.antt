use Rattle.std.proofs.Common.{refl}
use Rattle.jsonb_doc.specs.Events.{value_is}
use Rattle.jsonb_c.proofs.builder.jdoc_builder_document.Goals as goal

pub returns-clause-value : goal.returns-clause-value
returns-clause-value c = λ form t decodes. c.add.ensures.follows form (value_is t) (t, refl, decodes)
