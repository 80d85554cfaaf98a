use Rattle.jsonb_raw.proofs.Lemmas.{sym, refl, err_from_is_err_and, Locates, raw_bytes, arith, none_same, some_same}
use Rattle.jsonb_raw.proofs.raw.RawJsonb.get_by_keypath.Goals as goal

pub returns-in_err-spot-clause-place : goal.returns-in_err-spot-clause-place
returns-in_err-spot-clause-place g c = λ left tells form t d.
    let p = err_from_is_err_and c.from_residual.result c.from_residual.ensures.1 in
    rw (p.1, p.2) (grind (arith, c.in_err-spot.ensures.place left tells form t d))

pub returns-in_default-clause-place : goal.returns-in_default-clause-place
returns-in_default-clause-place g c = λ left tells form t d.
    rw (none_same (Locates (raw_bytes c.args.self.now)) _ _ c.in_default.is (c.in_ok-spot.ensures.place left tells form t d)) refl

pub returns-in_err-from_spot-clause-place : goal.returns-in_err-from_spot-clause-place
returns-in_err-from_spot-clause-place g c = λ left tells form t d.
    let p = err_from_is_err_and c.from_residual-in_err-from_spot.result c.from_residual-in_err-from_spot.ensures.1 in
    let i = some_same (Locates (raw_bytes c.args.self.now)) c.in-Some.spot _ _ c.in-Some.is (c.in_ok-spot.ensures.place left tells form t d) in
    rw (p.1, p.2) (rw (← i.2) (c.in_err-from_spot.ensures.document form t i.0 (rw c.as_bytes.ensures d) (rw c.as_bytes.ensures i.1)))

pub returns-clause-place : goal.returns-clause-place
returns-clause-place g c = λ left tells form t d.
    let i = some_same (Locates (raw_bytes c.args.self.now)) c.in-Some.spot _ _ c.in-Some.is (c.in_ok-spot.ensures.place left tells form t d) in
    rw (sym i.2) (c.in_ok-from_spot.ensures.document form t i.0 (rw c.as_bytes.ensures d) (rw c.as_bytes.ensures i.1))
