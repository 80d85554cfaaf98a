use Rattle.jsonb_raw.proofs.Lemmas.{subst, arith, members, Decodes, decoded_members, Makes, pairs_there}
use Rattle.jsonb_raw.proofs.raw.RawJsonb.concat.Goals as goal

pub returns-in_default-clause-document : goal.returns-in_default-clause-document
returns-in_default-clause-document c = λ form t u d e.
    let d' : Decodes form c.as_bytes-bytes.result.now t = rw c.as_bytes-bytes.ensures d in
    subst (λ whole. Makes form whole c.joined_arrays.result)
    (grind (arith, c.in_default.is, c.in_ok-first.ensures.entries form t d')) (c.joined_arrays.ensures.document form t u d' (rw c.as_bytes-others.ensures e))

pub returns-in_default-2-clause-document : goal.returns-in_default-2-clause-document
returns-in_default-2-clause-document c = λ form t u d e.
    let e' : Decodes form c.as_bytes-others.result.now u = rw c.as_bytes-others.ensures e in
    subst (λ whole. Makes form whole c.joined_arrays-in_default-2.result)
    (grind (arith, c.in_default-2.is, c.in_ok-second.ensures.entries form u e')) (c.joined_arrays-in_default-2.ensures.document form t u (rw c.as_bytes-bytes.ensures d) e')

pub returns-clause-document : goal.returns-clause-document
returns-clause-document c = λ form t u d e.
    let d' : Decodes form c.as_bytes-bytes.result.now t = rw c.as_bytes-bytes.ensures d in
    let e' : Decodes form c.as_bytes-others.result.now u = rw c.as_bytes-others.ensures e in
    let o = pairs_there form t _ _ c.in-Some.is (c.in_ok-first.ensures.entries form t d') in
    let p = pairs_there form u _ _ c.in-Some-2.is (c.in_ok-second.ensures.entries form u e') in
    rw (o.1, p.1) (c.merged_pairs.ensures.merged form (members o.0) (members p.0) o.2 p.2 (decoded_members form _ o.0 (rw o.1 at d'))
    (decoded_members form _ p.0 (rw p.1 at e')))
