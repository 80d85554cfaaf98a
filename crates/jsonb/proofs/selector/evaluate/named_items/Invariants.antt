use Rattle.jsonb.proofs.Lemmas.{◌≡◌, ◌++◌, ◌∷◌, [], List, map, Locates, Tree, Expression, filter, AllZip, AreTestsOf, asked_names, field_step, steps_of, taken_step, AreRefused, step_meaning, steps_meaning, SpotsPassed}
use Rattle.jsonb.proofs.selector.evaluate.named_items.Given as goal

abbrev pub invariant-loop-item : goal.invariant-loop-item
invariant-loop-item l =
    (e : Expression) (top : Tree) (ts : List Tree) → AreTestsOf (l.others ++ l.first ∷ []) e
    → ((t : Tree) → steps_meaning l.mode (steps_of (map (taken_step AreRefused) (asked_names l.first.question))) top (t ∷ []) ≡ field_step l.mode l.name t)
    → AllZip (Locates l.bytes) l.items ts →
    SpotsPassed (step_meaning l.mode (filter e) top) l.bytes l.items ts l.item-index l.nodes.items
