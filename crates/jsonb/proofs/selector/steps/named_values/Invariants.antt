use Rattle.jsonb.proofs.Lemmas.{List, drop, try_flat_map, Locates, Tree, AllZip, field_step, Progress}
use Rattle.jsonb.proofs.selector.steps.named_values.Given as goal

abbrev pub invariant-loop-item : goal.invariant-loop-item
invariant-loop-item l =
    (ts : List Tree) → AllZip (Locates l.context.document.bytes.now) l.items ts →
    Progress (AllZip (Locates l.context.document.bytes.now) (drop l.item-index l.items)) (AllZip (Locates l.context.document.bytes.now) l.nodes.items)
    (field_step l.context.mode l.name)
    (try_flat_map (field_step l.context.mode l.name) ts)
