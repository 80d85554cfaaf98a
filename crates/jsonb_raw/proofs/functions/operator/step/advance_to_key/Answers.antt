use Rattle.jsonb_raw.proofs.Lemmas.{arith, refl, sym, ◌∙◌, SomePairEntries-first, value_after_less}
use Rattle.jsonb_raw.proofs.functions.operator.step.advance_to_key.Goals as goal

pub loop-pair-preserved : goal.loop-pair-preserved
loop-pair-preserved c = record {
  room = omega (arith, c.in-Some.ensures.steps.room);
  left = λ form ps h.
      SomePairEntries-first form _ _ _ _ _ c.in_ok-name.was c.in-Some.ensures.steps (c.loop-pair.invariant.left form ps h)
      (λ value rest left stands fact.
      let less = sym c.cmp.ensures ∙ c.in-Less.is in
      record {
        pairs = rest;
        left = left;
        fact = (sym (value_after_less c.args.key.now c.in_ok-name.name.now value rest less) ∙ fact.0, sym (rw less refl) ∙ fact.1, fact.2.1);
      });
}
