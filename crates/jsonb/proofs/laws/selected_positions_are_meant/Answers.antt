use Rattle.jsonb.proofs.Lemmas.{meant_decides}
use Rattle.jsonb.proofs.laws.selected_positions_are_meant.Goals as goal

pub returns : goal.returns
returns c = λ entry n k short. meant_decides entry n k short
