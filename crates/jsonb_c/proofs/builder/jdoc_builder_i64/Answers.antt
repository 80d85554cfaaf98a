use Rattle.std.proofs.Common.{refl, w64}
use Rattle.std.proofs.lemmas.Int.{to_z-of_z}
use Rattle.jsonb_doc.specs.Number.{int64, number_from}
use Rattle.jsonb_doc.specs.Tree.{number}
use Rattle.jsonb_c.proofs.builder.jdoc_builder_i64.Goals as goal

pub returns : goal.returns
returns c =
    let same = to_z-of_z w64 c.args.value c.ranges.value in
    λ form. c.add_item.ensures form (number (number_from int64 c.args.value 0)) (rw same refl)
