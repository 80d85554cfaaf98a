use Rattle.jsonb_raw.proofs.Lemmas.{values_kept, some_keys_stay}
use Rattle.jsonb_raw.proofs.functions.operator.stripping.put_keys.Goals as goal

pub returns-clause-put : goal.returns-clause-put
returns-clause-put c = λ form t around whole h is w.
    let k = some_keys_stay form t _ h _ around whole w in
    c.put_keys_kept.ensures.put form k.names k.trees (values_kept t) around whole k.names_hold k.trees_hold k.enough k.coming
