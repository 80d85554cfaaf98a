use Rattle.jsonb_raw.proofs.Lemmas.{length, ap, arith, length-append, first_run}
use Rattle.jsonb_raw.proofs.functions.joined.count_entries.Goals as goal

pub returns-then-count-gt-MAX_ENTRIES : goal.returns-then-count-gt-MAX_ENTRIES
returns-then-count-gt-MAX_ENTRIES c = λ form ts h.
    let i = c.loop-run.invariant.whole form ts h in
    let f = first_run form c.args.runs.now c.loop-run.run-index c.run-item.result i.0 c.loop-run-test.true c.run-item.is i.1 in
    let sum = i.2 in
    omega (arith, sum, ap length f.joined, length-append f.xs f.ys, c.len-count.ensures.count form f.xs f.holds)

pub loop-run-preserved : goal.loop-run-preserved
loop-run-preserved c = record {
  few = omega arith;
  whole = λ form ts h.
      let i = c.loop-run.invariant.whole form ts h in
      let f = first_run form c.args.runs.now c.loop-run.run-index c.run-item.result i.0 c.loop-run-test.true c.run-item.is i.1 in
      let sum = i.2 in
      (f.ys, f.others_hold, omega (arith, sum, ap length f.joined, length-append f.xs f.ys, c.len-count.ensures.count form f.xs f.holds));
}
