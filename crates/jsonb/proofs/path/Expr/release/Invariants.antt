use Rattle.jsonb.proofs.Lemmas.{still}
use Rattle.jsonb.proofs.path.Expr.release.Given as goal

-- ends with the last part
abbrev pub decreases-loop-remaining : goal.decreases-loop-remaining
decreases-loop-remaining l = still l.remaining
