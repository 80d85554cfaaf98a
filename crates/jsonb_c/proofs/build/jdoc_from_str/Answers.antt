use Rattle.std.proofs.Common.{refl}
use Rattle.jsonb_doc.specs.Tree.{text}
use Rattle.jsonb_c.proofs.build.jdoc_from_str.Goals as goal

pub returns-clause-text : goal.returns-clause-text
returns-clause-text c = λ _. rw c.in-Ok.ensures.cases.0 at (c.deliver_item.ensures (text c.in-Ok.text.now) (λ form. refl))
