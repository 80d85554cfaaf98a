use Rattle.std.proofs.Common.{refl, pos}
use Rattle.jsonb_doc.specs.Number.{uint64, number_from}
use Rattle.jsonb_doc.specs.Tree.{number}
use Rattle.jsonb_c.proofs.builder.jdoc_builder_u64.Goals as goal

pub returns : goal.returns
returns c = λ form. c.add_item.ensures form (number (number_from uint64 (pos c.args.value) 0)) refl
