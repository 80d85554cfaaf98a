use Rattle.std.proofs.Common.{arith, refl}
use Rattle.std.proofs.lemmas.Result.{err_from_is_err_and}
use Rattle.jsonb_doc.specs.Representation.Positions.{Locates}
use Rattle.jsonb_raw.proofs.IteratorLemmas.{iter_tells}
use Rattle.jsonb_raw.proofs.PositionLemmas.{none_same, some_same}
use Rattle.jsonb_c.proofs.column.documents.part_bytes.Goals as goal

pub returns-in_err-found-clause-part : goal.returns-in_err-found-clause-part
returns-in_err-found-clause-part c = λ form t d.
    let p = err_from_is_err_and c.from_residual.result c.from_residual.ensures.1 in
    rw (p.1, p.2) (grind (arith, c.in_err-found.ensures.place _ iter_tells form t (rw c.new.ensures d)))

pub returns-in_default-clause-part : goal.returns-in_default-clause-part
returns-in_default-clause-part c = λ form t d.
    let said = rw (c.iter.ensures.rest, c.deref.ensures.value, c.new.ensures) at (c.in_ok-found.ensures.place _ iter_tells form t (rw c.new.ensures d)) in
    rw (none_same (Locates c.args.document.now) _ _ c.in_default.is said) refl

pub returns-in_err-entry-clause-part : goal.returns-in_err-entry-clause-part
returns-in_err-entry-clause-part c = λ form t d.
    let said = rw (c.iter.ensures.rest, c.deref.ensures.value, c.new.ensures) at (c.in_ok-found.ensures.place _ iter_tells form t (rw c.new.ensures d)) in
    let i = some_same (Locates c.args.document.now) c.in-Some.spot _ _ c.in-Some.is said in
    absurd (c.in_err-entry.ensures.entry form t i.0 d i.1)

pub returns-in_err-spot_value-clause-part : goal.returns-in_err-spot_value-clause-part
returns-in_err-spot_value-clause-part c = λ form t d.
    let said = rw (c.iter.ensures.rest, c.deref.ensures.value, c.new.ensures) at (c.in_ok-found.ensures.place _ iter_tells form t (rw c.new.ensures d)) in
    let i = some_same (Locates c.args.document.now) c.in-Some.spot _ _ c.in-Some.is said in
    absurd (c.in_err-spot_value.ensures.value i.0 i.1)

pub returns-in_err-bytes-clause-part : goal.returns-in_err-bytes-clause-part
returns-in_err-bytes-clause-part c = λ form t d.
    let said = rw (c.iter.ensures.rest, c.deref.ensures.value, c.new.ensures) at (c.in_ok-found.ensures.place _ iter_tells form t (rw c.new.ensures d)) in
    let i = some_same (Locates c.args.document.now) c.in-Some.spot _ _ c.in-Some.is said in
    let p = err_from_is_err_and c.from_residual-in_err-bytes.result c.from_residual-in_err-bytes.ensures.1 in
    rw (p.1, p.2) (rw (← i.2) (c.in_err-bytes.ensures.document form i.0 (c.in_ok-entry.ensures.entry form t i.0 d i.1)))

pub returns-clause-part : goal.returns-clause-part
returns-clause-part c = λ form t d.
    let said = rw (c.iter.ensures.rest, c.deref.ensures.value, c.new.ensures) at (c.in_ok-found.ensures.place _ iter_tells form t (rw c.new.ensures d)) in
    let i = some_same (Locates c.args.document.now) c.in-Some.spot _ _ c.in-Some.is said in
    rw (← i.2) (c.in_ok-bytes.ensures.document form i.0 (c.in_ok-entry.ensures.entry form t i.0 d i.1))
