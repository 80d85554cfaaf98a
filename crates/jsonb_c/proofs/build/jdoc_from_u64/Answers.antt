use Rattle.std.proofs.Common.{refl, pos}
use Rattle.jsonb_doc.specs.Number.{uint64, number_from}
use Rattle.jsonb_doc.specs.Tree.{number}
use Rattle.jsonb_c.proofs.build.jdoc_from_u64.Goals as goal

pub returns : goal.returns
returns c = c.deliver_item.ensures (number (number_from uint64 (pos c.args.value) 0)) (λ form. refl)
