use Rattle.jsonb.proofs.Lemmas.{means_kept}
use Rattle.jsonb.proofs.laws.strict_implies_lax.Goals as goal

pub returns : goal.returns
returns c = λ form path top ts h. means_kept form top ts path h
