use Rattle.jsonb.proofs.Lemmas.{◌≡◌, List, drop, false, try_flat_map, Locates, Tree, step_view, AllZip, is_filter, step_meaning, Progress}
use Rattle.jsonb.proofs.selector.steps.plain_steps.Given as goal

abbrev pub invariant-loop-item : goal.invariant-loop-item
invariant-loop-item l =
    (top : Tree) (ts : List Tree) → is_filter (step_view l.step) ≡ false → AllZip (Locates l.context.document.bytes.now) l.items ts →
    Progress (AllZip (Locates l.context.document.bytes.now) (drop l.item-index l.items)) (AllZip (Locates l.context.document.bytes.now) l.nodes.items)
    (step_meaning l.context.mode (step_view l.step) top)
    (try_flat_map (step_meaning l.context.mode (step_view l.step) top) ts)
