use Rattle.std.proofs.Common.{refl}
use Rattle.jsonb_doc.specs.Tree.{text}
use Rattle.jsonb_c.proofs.builder.jdoc_builder_str.Goals as goal

pub returns-clause-text : goal.returns-clause-text
returns-clause-text c = λ _ form. rw c.in-Ok.ensures.cases.0 at (c.add_item.ensures form (text c.in-Ok.text.now) refl)
