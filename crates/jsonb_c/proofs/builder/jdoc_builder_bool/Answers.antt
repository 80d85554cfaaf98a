use Rattle.std.proofs.Common.{refl}
use Rattle.jsonb_doc.specs.Tree.{boolean}
use Rattle.jsonb_c.proofs.builder.jdoc_builder_bool.Goals as goal

pub returns : goal.returns
returns c = λ form. c.add_item.ensures form (boolean c.args.value) refl
