use Rattle.jsonb.proofs.Lemmas.{◌≡◌, ◌∷◌, [], drop, map, true, Locates, Tree, steps_of, steps_view, steps_meaning, are_members, taken_step, Expressions}
use Rattle.jsonb.proofs.selector.members.member.Given as goal

-- what the steps that are left give of the item is what all give of the first
abbrev pub invariant-loop-step : goal.invariant-loop-step
invariant-loop-step l =
    (expressions : Expressions) (top t : Tree) → are_members (steps_view l.steps) ≡ true → Locates l.bytes l.fn.first t →
    (u : Tree) × Locates l.bytes l.item u × (are_members (steps_view (drop l.step-index l.steps)) ≡ true)
    × (steps_meaning l.mode (steps_of (map (taken_step expressions) (steps_view l.steps))) top (t ∷ [])
    ≡ steps_meaning l.mode (steps_of (map (taken_step expressions) (steps_view (drop l.step-index l.steps)))) top (u ∷ []))
