use Rattle.jsonb.proofs.Lemmas.{◌≡◌, ◌∷◌, [], List, length, Locates, Tree, Step, steps_of, steps_meaning, IsAhead, Lax}
use Rattle.jsonb.proofs.selector.search.reach.Given as goal

-- what the steps that are left make of the item is what all make of the first
abbrev pub invariant-loop-given : goal.invariant-loop-given
invariant-loop-given l = (top t : Tree) (ss : List Step) → IsAhead l.fn.ahead ss → Locates l.bytes l.fn.first t →
    (u : Tree) × (rest : List Step) × Locates l.bytes l.item u × IsAhead l.ahead rest
    × (steps_meaning Lax (steps_of ss) top (t ∷ []) ≡ steps_meaning Lax (steps_of rest) top (u ∷ []))

abbrev pub decreases-loop-given : goal.decreases-loop-given
decreases-loop-given l = length l.ahead.steps.now
