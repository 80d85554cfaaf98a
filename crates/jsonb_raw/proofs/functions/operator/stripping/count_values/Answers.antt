use Rattle.jsonb_raw.proofs.Lemmas.{true, arith, ap, length, Null, differing_kind, equal_kind, stripped, word_taken, no_word_left, null_kind, is_none}
use Rattle.jsonb_raw.proofs.StripWalk.{is_some}
use Rattle.jsonb_raw.proofs.functions.operator.stripping.count_values.Goals as goal

pub loop-kind-preserved-then-ne : goal.loop-kind-preserved-then-ne
loop-kind-preserved-then-ne c = record {
  bound = let size = c.in-Some.ensures.size in let before = c.loop-kind.invariant.bound in omega (arith, size, before);
  left = λ form ts h.
      let i = c.loop-kind.invariant.left form ts h in
      let f = word_taken form _ i.trees _ _ _ i.holds c.in-Some.ensures.word in
      (grind (arith, null_kind, is_some, differing_kind _ c.in-Some.kind Null c.ne.ensures c.if-ne.true));
}

pub loop-kind-preserved : goal.loop-kind-preserved
loop-kind-preserved c = record {
  bound = let size = c.in-Some.ensures.size in let before = c.loop-kind.invariant.bound in omega (arith, size, before);
  left = λ form ts h.
      let i = c.loop-kind.invariant.left form ts h in
      let f = word_taken form _ i.trees _ _ _ i.holds c.in-Some.ensures.word in
      (grind (arith, null_kind, is_none, equal_kind _ c.in-Some.kind Null c.ne.ensures c.if-ne.false));
}

pub returns : goal.returns
returns c = λ form ts h.
    let i = c.loop-kind.invariant.left form ts h in
    let none = no_word_left form _ i.trees i.holds c.in_default.ensures.word in
    let sum = i.sum in omega (arith, sum, ap (λ us. length (stripped true us)) none)
