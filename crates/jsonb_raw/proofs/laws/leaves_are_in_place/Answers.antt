use Rattle.jsonb_raw.proofs.Lemmas.{leaves_are_in_place}
use Rattle.jsonb_raw.proofs.laws.leaves_are_in_place.Goals as goal

pub returns : goal.returns
returns c = leaves_are_in_place
