use Rattle.jsonb.proofs.Lemmas.{◌++◌, ◌∷◌, [], List, Locates, Tree, Expression, filter, AllZip, AreTestsOf, step_meaning, SpotsPassed}
use Rattle.jsonb.proofs.selector.evaluate.other_items.Given as goal

abbrev pub invariant-loop-item : goal.invariant-loop-item
invariant-loop-item l =
    (e : Expression) (top : Tree) (ts : List Tree) → AreTestsOf (l.others ++ l.first ∷ []) e → AllZip (Locates l.bytes) l.items ts →
    SpotsPassed (step_meaning l.mode (filter e) top) l.bytes l.items ts l.item-index l.nodes.items
