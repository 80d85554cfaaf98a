use Rattle.jsonb.proofs.Lemmas.{◌≡◌, ◌<◌, ◌⊎◌, parts}
use Rattle.jsonb.proofs.path.chain.links_of.Given as goal

-- it is the expression yet, or some are counted
abbrev pub invariant-loop-inner : goal.invariant-loop-inner
invariant-loop-inner l = (l.inner ≡ l.fn.expression) ⊎ (0 < l.links)

abbrev pub decreases-loop-inner : goal.decreases-loop-inner
decreases-loop-inner l = parts l.inner
