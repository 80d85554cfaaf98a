use Rattle.jsonb_doc.proofs.Common.{◌≡◌, arith, length, ◌-◌, take, drop, take_all, length-drop}
use Rattle.jsonb_doc.proofs.AsciiLemmas.{ascii_more, ascii_whole}
use Rattle.jsonb_doc.proofs.utf8.blocks_are_ascii.Goals as goal

pub loop-at-preserved : goal.loop-at-preserved
loop-at-preserved g c =
    let rest : take (length c.args.bytes.now - c.loop-at.at) (drop c.loop-at.at c.args.bytes.now) ≡ drop c.loop-at.at c.args.bytes.now =
    take_all _ _ (omega (arith, length-drop c.loop-at.at c.args.bytes.now)) in (
      omega arith,
      ascii_more c.args.bytes.now c.loop-at.at g.row.N c.loop-at.invariant.1
          (rw rest at (c.block_is_ascii.ensures c.if-not-block_is_ascii.false)),
    )

pub returns : goal.returns
returns g c = λ is.
    let last = length c.args.bytes.now - g.row.N in
    let rest : take (length c.args.bytes.now - last) (drop last c.args.bytes.now) ≡ drop last c.args.bytes.now =
    take_all _ _ (omega (arith, length-drop last c.args.bytes.now)) in
    ascii_whole c.args.bytes.now c.loop-at.at last g.row.N
    c.loop-at.invariant.1 (rw rest at (c.block_is_ascii-2.ensures is)) c.loop-at-test.false (omega (arith, c.requires.within))
