use Rattle.std.proofs.Common.{◌≡◌, ◌∙◌, ap, ◌++◌, ◌∷◌, [], length, arith}
use Rattle.jsonb_c.proofs.LeafRows.{rows_more}
use Rattle.jsonb_c.proofs.leaves.MadeColumn.push.Goals as goal

pub returns-clause-rows : goal.returns-clause-rows
returns-clause-rows c = λ rows has.
    let end : c.len.result ≡ length c.extend_from_slice.new.self.items = omega (arith, c.len.ensures, c.extend_from_slice.new.self.ok.0) in
    rows_more rows c.args.row.now c.args.self.now.bytes.items c.extend_from_slice.new.self.items c.args.self.now.positions.items c.push.new.self.items
    c.in_ok-extend_from_slice.ensures.items
    (c.in_ok-push.ensures.items ∙ ap (λ n. c.args.self.now.positions.items ++ n ∷ []) end) has
