use Rattle.jsonb_raw.proofs.Lemmas.{◌≡◌, None, sym, in_any, element_at, arith, array_spots}
use Rattle.jsonb_raw.proofs.raw.RawJsonb.spot_by_index.Goals as goal

pub returns-in_err-root-clause-element : goal.returns-in_err-root-clause-element
returns-in_err-root-clause-element c = λ form t d.
    let d' = in_any form t _ (rw c.as_bytes-bytes.ensures d) in absurd (c.in_err-root.ensures.marks t d')

pub returns-in_err-elements-clause-element : goal.returns-in_err-elements-clause-element
returns-in_err-elements-clause-element c = λ form t d.
    let d' = in_any form t _ (rw c.as_bytes-bytes.ensures d) in
    absurd (c.in_err-elements.ensures.spots t (c.in_ok-root.ensures.marks t d'))

pub returns-in_default-clause-element : goal.returns-in_default-clause-element
returns-in_default-clause-element c = λ form t d.
    let d' = in_any form t _ (rw c.as_bytes-bytes.ensures d) in
    let none : element_at c.args.index t ≡ None =
    (grind (arith, rw c.in_default.is at (c.in_ok-elements.ensures.spots t (c.in_ok-root.ensures.marks t d')))) in
    rw none tt

pub returns-clause-element : goal.returns-clause-element
returns-clause-element c = λ form t d.
    let d' = in_any form t _ (rw c.as_bytes-bytes.ensures d) in
    let a = array_spots _ _ t (rw c.in-Some.is at (c.in_ok-elements.ensures.spots t (c.in_ok-root.ensures.marks t d'))) in
    rw (a.1, sym c.as_bytes-bytes.ensures) (c.nth_spot.ensures.spot _ _ a.2)
