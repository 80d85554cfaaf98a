use Rattle.std.proofs.Common.{rules}
use mir.Syntax.{w64, w128}
use mir.Val.{SFits}
use Rattle.std.proofs.lemmas.Int.{to_z-of_z}
use Rattle.jsonb_c.proofs.builder.jdoc_builder_decimal.Goals as goal

pub returns : goal.returns
returns c =
    let high = to_z-of_z w64 c.args.high c.ranges.high in
    let fits : SFits w128 c.whole_of.result = search rules in
    let whole = to_z-of_z w128 c.whole_of.result fits in
    λ form t is. c.add_item.ensures form t (c.decimal-number.ensures t (rw (whole, c.whole_of.ensures, high) is))
