use Rattle.jsonb_doc.proofs.Lemmas.{still}
use Rattle.jsonb_doc.proofs.value.Value.release.Given as goal

-- ends with the last part
abbrev pub decreases-loop-remaining : goal.decreases-loop-remaining
decreases-loop-remaining l = still l.remaining
