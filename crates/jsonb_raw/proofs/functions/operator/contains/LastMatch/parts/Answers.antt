use Rattle.jsonb_raw.proofs.Common.{◌≡◌, ◌-◌, arith, count}
use Rattle.jsonb_raw.proofs.EntriesLeft.{tail_none, tail_whole, tail_turned}
use Rattle.jsonb_raw.proofs.functions.operator.contains.LastMatch.parts.Goals as goal

pub returns-then-self : goal.returns-then-self
returns-then-self c = record {
  parts = λ form xs h.
      let q = c.requires.last form xs h in
      let left = c.len.ensures.left form q.0 q.1 in
      let before : c.saturating_sub.result ≡ count xs - count q.0 = omega (arith, c.saturating_sub.ensures, c.len-2.ensures.left form xs h, left) in
      (xs, q.0, h, q.1, λ test. tail_turned test xs q.0 q.2.0 q.2.1 _ _ left before);
  first = tail_none c.args.all;
  second = c.requires;
}

pub returns : goal.returns
returns c = record {
  parts = λ form xs h. grind (arith, tail_whole);
  first = c.requires;
  second = tail_none c.args.all;
}
