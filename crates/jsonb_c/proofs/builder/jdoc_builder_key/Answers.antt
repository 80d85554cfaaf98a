use Rattle.std.proofs.Common.{refl}
use Rattle.jsonb_doc.specs.Events.{key_is}
use Rattle.jsonb_c.proofs.builder.jdoc_builder_key.Goals as goal

pub returns-clause-key : goal.returns-clause-key
returns-clause-key c = λ _ form. rw c.in-Ok.ensures.cases.0 at (c.add.ensures.follows form (key_is c.in-Ok.key.now) refl)
