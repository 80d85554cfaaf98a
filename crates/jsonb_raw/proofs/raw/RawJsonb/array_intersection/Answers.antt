use Rattle.jsonb_raw.proofs.Lemmas.{subst, array, trees_of, Decodes, Makes, shared_one}
use Rattle.jsonb_raw.proofs.raw.RawJsonb.array_intersection.Goals as goal

pub returns-in-Some-clause-shared : goal.returns-in-Some-clause-shared
returns-in-Some-clause-shared c = λ form other_form t u d e.
    let d' : Decodes form c.as_bytes-bytes.result.now t = rw c.as_bytes-bytes.ensures d in
    let one = rw c.in-Some.is at (c.in_ok-is_shared.ensures.equal form other_form t u d' (rw c.as_bytes-others.ensures e)) in
    rw (one.0, one.1) (subst (λ kept. Makes form (array (trees_of kept)) c.array_of_root.result)
    (shared_one t u c.in-Some.is_shared one.2) (c.array_of_root.ensures.made form t d'))

pub returns-clause-shared : goal.returns-clause-shared
returns-clause-shared c = λ form other_form t u d e.
    c.kept_beside.ensures.made form other_form t u (rw c.as_bytes-bytes.ensures d) (rw c.as_bytes-others.ensures e)
