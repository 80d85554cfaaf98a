use Rattle.std.proofs.Common.{refl}
use Rattle.jsonb_doc.specs.Tree.{boolean}
use Rattle.jsonb_c.proofs.build.jdoc_from_bool.Goals as goal

pub returns : goal.returns
returns c = c.deliver_item.ensures (boolean c.args.value) (λ form. refl)
