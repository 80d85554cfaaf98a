use Rattle.jsonb.proofs.Lemmas.{◌≡◌, expression_view, below}
use Rattle.jsonb.proofs.path.chain.below.Given as goal

-- as many left sides below as there were turns
abbrev pub invariant-loop : goal.invariant-loop
invariant-loop l = expression_view l.inner ≡ below l.counter (expression_view l.fn.expression)
