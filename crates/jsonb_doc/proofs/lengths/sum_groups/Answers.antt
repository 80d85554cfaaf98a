use Rattle.jsonb_doc.proofs.Lemmas.{arith, [], lengths_of, sum_left}
use Rattle.jsonb_doc.proofs.lengths.sum_groups.Goals as goal

pub loop-group-preserved : goal.loop-group-preserved
loop-group-preserved c =
    let left = sum_left (lengths_of 32) c.args.groups.now c.loop-group.group-index [] c.loop-group-test.true in
    record {
      sum = omega (arith, c.loop-group.invariant.sum, left, c.sum_group-len.ensures.sum);
      bound = omega (arith, c.loop-group.invariant.bound, c.sum_group-len.ensures.bound);
    }
