use Rattle.jsonb_raw.proofs.functions.path.exists.KeyTable.has.Goals as goal

pub returns-clause-has : goal.returns-clause-has
returns-clause-has c = λ form ks h. c.search.ensures.has form ks (c.seek.ensures.table form ks h).near
