use Rattle.jsonb_raw.proofs.Lemmas.{◌∷◌, DecideFrom, sym, first_passed, name_taken, not_below_itself}
use Rattle.jsonb_raw.proofs.functions.object.names.SortedNames.has.Goals as goal

pub returns-in_default-clause-found : goal.returns-in_default-clause-found
returns-in_default-clause-found c = λ utf8 d.
    (sym ((rw c.in_default.is at (c.loop-step.invariant.decides d)).agree c.args.key.now (not_below_itself c.args.key.now)))

pub loop-step-preserved : goal.loop-step-preserved
loop-step-preserved c = record {
  decides = λ d.
      let here : DecideFrom c.args.self.now.names.now c.args.key.now (c.in-Some.name ∷ c.loop-step.self.left) =
      rw c.in-Some.is at (c.loop-step.invariant.decides d) in
      first_passed c.args.self.now.names.now c.args.key.now _ _ c.in-Some.name (rw c.as_bytes.ensures.value at c.in-Less.ensures) here
      (name_taken _ _ _ _ c.copied-self.ensures c.next.ensures.steps);
  names = c.loop-step.invariant.names;
}
