use Rattle.jsonb_doc.proofs.Lemmas.{rules, arith, number_or_unsupported, IsCut-scalar, HasContent-array, HasContent-keys, HasContent-object, HasKeys-room}
use Rattle.jsonb_doc.proofs.checking.split_container.Goals as goal

pub returns-in-Scalar : goal.returns-in-Scalar
returns-in-Scalar c = λ h.
    IsCut-scalar number_or_unsupported c.args.bytes.now c.in-Scalar.field-0 (rw c.in-Scalar.is at c.in-Ok.ensures.cut) h.0 h.1

pub returns-in-Array : goal.returns-in-Array
returns-in-Array c = search (rules, HasContent-array, (rw c.in-Array.is at c.in-Ok.ensures.room), (rw c.in-Array.is at c.in-Ok.ensures.cut))

pub returns-in_err-contents-in-Object : goal.returns-in_err-contents-in-Object
returns-in_err-contents-in-Object c = rw c.from_residual.ensures
    (HasContent-keys c.args.bytes.now c.in-Object.parts (rw c.in-Object.is at c.in-Ok.ensures.cut) number_or_unsupported c.in_err-contents-in-Object.ensures)

pub returns-in_ok-contents-in-Object : goal.returns-in_ok-contents-in-Object
returns-in_ok-contents-in-Object c =
    let found = c.in_ok-contents-in-Object.ensures in
    record {
      shorter = omega (arith, (rw c.in-Object.is at c.in-Ok.ensures.room), HasKeys-room _ _ _ found);
      same = HasContent-object c.args.bytes.now c.in-Object.parts (rw c.in-Object.is at c.in-Ok.ensures.cut) _ found;
    }
