use Rattle.jsonb_c.proofs.NameSets.{answered_by_set}
use Rattle.jsonb_c.proofs.document.names.deliver_pairs.Goals as goal

pub returns-in-Ok : goal.returns-in-Ok
returns-in-Ok c = answered_by_set _ c.in-Ok.keys _ _ (rw c.new.ensures at c.in-Ok.ensures) (λ names has. (
  c.chosen_object.result,
  c.chosen_object.ensures.object names has,
  c.chosen_object.ensures.errors,
  c.deliver_made.ensures,
))
