use Rattle.jsonb.proofs.Lemmas.{rules, Ok, ap, sym, ◌∙◌, inl, inr, AllZip, try_flat_map, Refines, IsOutOfMemory, step_meaning, IsAt, node_spots, root_is, current_is, joined_singles, same_outcome, joined_one, only_one}
use Rattle.jsonb.proofs.selector.steps.plain_found.Goals as goal

pub returns-in-Root-clause-meant : goal.returns-in-Root-clause-meant
returns-in-Root-clause-meant c = λ top ts plain a.
    let mode = c.args.context.now.mode in
    let filtered : Refines (λ found us. AllZip (IsAt c.args.context.now.document) (node_spots found) us) IsOutOfMemory (Ok c.args.items)
    (Ok ts) = record { ok = a; err = tt } in
    elim c.in-Root.is [
      | inl is ↦ same_outcome (ap (λ x. try_flat_map (step_meaning mode x top) ts) (root_is c.args.step.now is) ∙ joined_singles ts) filtered
      | inr is ↦ same_outcome (ap (λ x. try_flat_map (step_meaning mode x top) ts) (current_is c.args.step.now is) ∙ joined_singles ts) filtered
    ]

pub returns-in-One-clause-meant : goal.returns-in-One-clause-meant
returns-in-One-clause-meant c = search (rules, only_one, same_outcome, joined_one)

pub returns-in-Many-clause-meant : goal.returns-in-Many-clause-meant
returns-in-Many-clause-meant c = λ top ts plain a.
    c.plain_steps.ensures.meant top ts plain (rw (sym c.deref.ensures.value) at (rw c.in-Many.is at a))
