use Rattle.jsonb.proofs.Lemmas.{◌≡◌, ◌+◌, expression_view, leaf_view, leaf_parts, framed, waiting}
use Rattle.jsonb.proofs.path.Expr.clone.Given as goal

-- the leaf that is next, within its frames, is the whole
abbrev pub invariant-loop-copied : goal.invariant-loop-copied
invariant-loop-copied l = framed l.reached.frames.items (leaf_view l.reached.leaf) ≡ expression_view l.fn.self

abbrev pub decreases-loop-copied : goal.decreases-loop-copied
decreases-loop-copied l = waiting l.reached.frames.items + leaf_parts l.reached.leaf
