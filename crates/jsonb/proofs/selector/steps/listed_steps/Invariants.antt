use Rattle.jsonb.proofs.Lemmas.{[], ◌∷◌, map, steps_of, steps_view, steps_meaning, HasTree, IsAt, Tree, node_spots, taken_step, Listed}
use Rattle.jsonb.proofs.selector.steps.listed_steps.Given as goal

abbrev pub invariant-loop-step : goal.invariant-loop-step
invariant-loop-step l = (top t : Tree) → HasTree l.context.document top → IsAt l.context.document l.fn.first t
    → Listed l.context top l.expressions l.repeats l.steps l.step-index (node_spots l.items)
    (steps_meaning l.context.mode (steps_of (map (taken_step l.expressions) (steps_view l.steps))) top (t ∷ []))
