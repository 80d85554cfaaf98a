use Rattle.jsonb_raw.proofs.Lemmas.{members, Decodes, decoded_members, pairs_there}
use Rattle.jsonb_raw.proofs.raw.RawJsonb.object_pick.Goals as goal

pub returns-clause-pairs : goal.returns-clause-pairs
returns-clause-pairs c = λ form t d.
    let d' : Decodes form c.as_bytes.result.now t = rw c.as_bytes.ensures d in
    let o = pairs_there form t _ _ c.in-Some.is (c.in_ok-pairs.ensures.entries form t d') in
    rw o.1 (c.pairs_by_set.ensures.pairs form (members o.0) o.2 (decoded_members form _ o.0 (rw o.1 at d')))
