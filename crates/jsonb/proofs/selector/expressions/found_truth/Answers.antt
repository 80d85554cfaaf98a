use Rattle.jsonb.proofs.Lemmas.{Ok, Some, is_some, first_item, sym, ap, ◌∙◌, ◌∷◌, [], steps_meaning, steps_view, path_steps, IsAt, IsTruth, exists_of, subst, first_refused, refused_steps, found_exists}
use Rattle.jsonb.proofs.selector.expressions.found_truth.Goals as goal

pub returns-in-Ok-Some-clause-meant : goal.returns-in-Ok-Some-clause-meant
returns-in-Ok-Some-clause-meant c = λ top t has at.
    let o = steps_meaning c.args.context.now.mode (path_steps c.args.steps.now) top (t ∷ []) in
    let is = sym c.in_ok-found.ensures.same ∙ c.in-Ok-Some.is ∙ ap Ok c.in-Ok-Some.field-0-is in
    let found = (rw (is, refused_steps (steps_view c.args.steps.now)) at (c.search.ensures.meant top t at)).ok in
    subst (λ b. IsTruth (Ok (Some b)) (exists_of o)) (sym c.is_some.ensures) (found_exists (IsAt c.args.context.now.document) c.in-Ok-Some.found o found)

pub returns-in-Err-clause-meant : goal.returns-in-Err-clause-meant
returns-in-Err-clause-meant c = λ top t has at.
    let is = sym c.in_ok-found.ensures.same ∙ c.in-Err.is in
    first_refused (λ us. Ok (Some (is_some (first_item us)))) (rw (is, refused_steps (steps_view c.args.steps.now)) at (c.search.ensures.meant top t at))
