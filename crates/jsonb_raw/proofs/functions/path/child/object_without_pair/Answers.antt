use Rattle.jsonb_raw.proofs.Lemmas.{keys_rise, remove, drop_one_more, two_runs, names_around, values_around}
use Rattle.jsonb_raw.proofs.functions.path.child.object_without_pair.Goals as goal

pub returns-clause-deleted : goal.returns-clause-deleted
returns-clause-deleted c = λ form ps h are.
    let k = rw drop_one_more at (c.in_ok-keys.ensures.around form _ h.names) in
    let v = rw drop_one_more at (c.in_ok-values.ensures.around form _ h.parts) in
    c.object_of.ensures.object form (remove ps c.args.position) (keys_rise _ are)
    (rw (names_around c.args.position ps) (two_runs form _ _ _ _ k.0 k.1))
    (rw (values_around c.args.position ps) (two_runs form _ _ _ _ v.0 v.1))
