use Rattle.jsonb_raw.proofs.Lemmas.{◌∙◌, sym, rules, names_left, DecideFrom, arith, run_first, run_more, next_member, key_decided, key_is_utf8}
use Rattle.jsonb_raw.proofs.functions.object.names.SortedNames.next_run.Goals as goal

pub loop-key-init : goal.loop-key-init
loop-key-init c = record {
  bound = search rules;
  fewer = search rules;
  run = λ form ps h a d.
      let n = next_member form _ ps _ _ _ c.in-Some.is (c.in_ok-first.ensures.first form _ h) in
      run_first form c.args.self.now.names.now (names_left c.args.self.now) _ c.args.keys ps h a d _ _ n _ c.has-is_in.ensures.decides c.has-is_in.ensures.found;
  names = c.has-is_in.ensures.names;
}

pub loop-key-preserved : goal.loop-key-preserved
loop-key-preserved c = record {
  bound = search rules;
  fewer = search rules;
  run = λ form ps h a d.
      let m = c.loop-key.invariant.run form ps h a d in
      let n = next_member form _ m.others _ _ _ c.in-Some-2.is (c.in_ok-key.ensures.first form _ m.hold) in
      let decided : DecideFrom c.loop-key.self.names.now c.in-Some-2.key.content.now (names_left c.loop-key.self) = grind (arith, key_decided) in
      let found = rw c.loop-key.invariant.names at (sym (c.has.ensures.found (key_is_utf8 form _ _ _ _ _ _ m _ _ n) decided)) in
      run_more form _ _ _ _ _ _ m _ _ n _ (rw c.loop-key.invariant.names at (c.has.ensures.decides decided))
      (found ∙ grind (arith, c.if-has-is_in.false));
  names = c.has.ensures.names ∙ c.loop-key.invariant.names;
}
