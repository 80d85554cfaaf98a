use Rattle.jsonb.proofs.Lemmas.{◌≡◌, capped, most_items, steps_view, total, waiting_parts}
use Rattle.jsonb.proofs.selector.most_items.most_items.Given as goal

-- what is counted, and what waits, is what the path has
abbrev pub invariant-loop-next : goal.invariant-loop-next
invariant-loop-next l = capped (total l.size l.count) ≡ most_items l.size (steps_view l.steps)

abbrev pub decreases-loop-next : goal.decreases-loop-next
decreases-loop-next l = waiting_parts l.count
