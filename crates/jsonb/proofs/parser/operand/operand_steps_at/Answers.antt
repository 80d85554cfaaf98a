use Rattle.jsonb.proofs.Lemmas.{◌≡◌, ◌∙◌, ◌∷◌, [], refl, steps_view, step_view, root-begins}
use Rattle.jsonb.proofs.parser.operand.operand_steps_at.Goals as goal

pub returns-clause-goes_on : goal.returns-clause-goes_on
returns-clause-goes_on c = λ outside.
    let one : steps_view c.push.new.self.items ≡ step_view c.in-Some.first ∷ [] = rw (c.in_ok-push.ensures.items, c.new-steps.ensures.items) refl in
    rw one at c.in_ok-steps.ensures.behind
    ∙ root-begins c.args.input.now (step_view c.in-Some.first) c.in-Some.rest.now (rw outside at c.in-Some.ensures.value)
