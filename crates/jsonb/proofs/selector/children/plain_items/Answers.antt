use Rattle.jsonb.proofs.Lemmas.{[], ◌∷◌, values_of, array_values, ap, refl, step_meaning, values_is, elements_is, indices_is, levels_is, same_outcome, answered}
use Rattle.jsonb.proofs.selector.children.plain_items.Goals as goal

pub returns-in-DotWildcard-clause-meant : goal.returns-in-DotWildcard-clause-meant
returns-in-DotWildcard-clause-meant c = λ top t n m.
    same_outcome (ap (λ s. step_meaning c.args.mode s top t) (values_is c.args.step.now c.in-DotWildcard.is))
    (c.items_or.ensures.meant c.args.bytes.now (values_of t) [] (c.values.ensures.meant t m) tt)

pub returns-in-BracketWildcard-clause-meant : goal.returns-in-BracketWildcard-clause-meant
returns-in-BracketWildcard-clause-meant c = λ top t n m.
    same_outcome (ap (λ s. step_meaning c.args.mode s top t) (elements_is c.args.step.now c.in-BracketWildcard.is))
    (c.items_or-in-BracketWildcard.ensures.meant c.args.bytes.now (array_values t) (t ∷ []) (c.elements.ensures.meant t m) (m, tt))

pub returns-in-ArrayIndices-clause-meant : goal.returns-in-ArrayIndices-clause-meant
returns-in-ArrayIndices-clause-meant c = λ top t n m.
    same_outcome (ap (λ s. step_meaning c.args.mode s top t) (indices_is c.args.step.now c.in-ArrayIndices.entries c.in-ArrayIndices.is))
    (rw c.deref.ensures.value at (c.picked_items.ensures.meant t m))

pub returns-in-RecursiveDotWildcard-clause-meant : goal.returns-in-RecursiveDotWildcard-clause-meant
returns-in-RecursiveDotWildcard-clause-meant c = λ top t n m.
    same_outcome (ap (λ s. step_meaning c.args.mode s top t) (levels_is c.args.step.now c.in-RecursiveDotWildcard.levels c.in-RecursiveDotWildcard.is))
    (answered (t, m, refl))
