use Rattle.std.proofs.Common.{map}
use Rattle.jsonb_c.proofs.Names.{answered}
use Rattle.jsonb_c.proofs.document.names.store_exists_keys.Goals as goal

pub returns-in-Ok : goal.returns-in-Ok
returns-in-Ok c = answered _ (map (λ n. n.now) c.in-Ok.names.items) _ _ (rw c.new.ensures at c.in-Ok.ensures) (
  c.exists_keys.result,
  rw c.deref.ensures.value at c.exists_keys.ensures.keys,
  c.exists_keys.ensures.errors,
  c.store_bool.ensures,
)
