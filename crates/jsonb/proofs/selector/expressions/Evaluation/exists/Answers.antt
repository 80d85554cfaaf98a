use Rattle.jsonb.proofs.Lemmas.{Ok, ◌∷◌, [], ap, sym, start, steps_meaning, path_steps, truth, exists, exists_of}
use Rattle.jsonb.proofs.selector.expressions.Evaluation.exists.Goals as goal

pub returns-in-Some-clause-meant : goal.returns-in-Some-clause-meant
returns-in-Some-clause-meant c = λ aim top ts frames has at some leads. (
  truth c.args.self.now.context.mode (exists (path_steps c.args.steps.now)) top,
  rw c.in-Some.is at (c.in_ok-truths.ensures.meant top ts has at some),
  leads,
)

pub returns-in_ok-walk-in-None-clause-meant : goal.returns-in_ok-walk-in-None-clause-meant
returns-in_ok-walk-in-None-clause-meant c = λ aim top ts frames has at some leads.
    let mode = c.args.self.now.context.mode in
    let steps = c.args.steps.now in (
      (λ t. Ok (start (path_steps steps) top t ∷ [])),
      truth mode (exists (path_steps steps)) top,
      c.in_ok-walk-in-None.ensures.meant top ts has at some,
      (λ t. ap (λ s. exists_of (steps_meaning mode (path_steps s) top (start (path_steps steps) top t ∷ []))) (sym c.in_ok-walk-in-None.ensures.steps)),
      leads,
    )
