use Rattle.jsonb_raw.proofs.Lemmas.{arith, ends_written, plain_written}
use Rattle.jsonb_raw.proofs.key_bytes.push_ends.Goals as goal

pub returns-clause-done : goal.returns-clause-done
returns-clause-done g c is =
    let ends = c.in-Some.ensures in
    let few = ends.few in
    plain_written c.args.out.now.items _ _ _ ends.plain
    (ends_written g.row.N _ c.args.text.now _ _ (omega arith) ends.front ends.back c.args.out.now.items _ _ _ _ (omega (arith, c.len-start.ensures))
    c.in_ok-extend_from_slice.ensures.items c.truncate.ensures.items c.in_ok-extend_from_slice-2.ensures.items)
    c.in_ok-push.ensures.items
