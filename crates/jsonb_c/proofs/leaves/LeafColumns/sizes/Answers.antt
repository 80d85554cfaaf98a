use Rattle.std.proofs.Common.{ap, length, arith}
use Rattle.std.proofs.lemmas.List.{length-map}
use Rattle.jsonb_c.specs.Private.LeafColumns.{LeafRow, documents_of}
use Rattle.jsonb_c.proofs.LeafRows.{positions_count}
use Rattle.jsonb_c.proofs.leaves.LeafColumns.sizes.Goals as goal

pub returns-clause-rows : goal.returns-clause-rows
returns-clause-rows c = λ found has.
    let held = ap length has.1.1 in
    let count = positions_count 0 (documents_of found) in
    let all = length-map found (λ (row : LeafRow). row.1) in
    omega (arith, c.saturating_sub.ensures, c.len.ensures, c.args.self.now.documents.positions.ok.0, held, count, all)
