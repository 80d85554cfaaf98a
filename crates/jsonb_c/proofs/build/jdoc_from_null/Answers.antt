use Rattle.std.proofs.Common.{refl}
use Rattle.jsonb_doc.specs.Tree.{null}
use Rattle.jsonb_c.proofs.build.jdoc_from_null.Goals as goal

pub returns : goal.returns
returns c = c.deliver_item.ensures null (λ form. refl)
