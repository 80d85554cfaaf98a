use Rattle.jsonb.proofs.Lemmas.{◌<◌, ◌≤◌, Ok, Err, length, arith, null, array_of, Decodes, IsNumberItem, front_step, front_whole, err_is, related_length, related_at, left_first, left_none}
use Rattle.jsonb.proofs.Common.{answered}
use Rattle.jsonb.proofs.selector.documents.number_array.Goals as goal

pub returns-in_err-push_item-clause-document : goal.returns-in_err-push_item-clause-document
returns-in_err-push_item-clause-document c = λ form ts h.
    let short : c.loop-position.position < length ts = omega
    (arith, c.loop-position-test.true, related_length IsNumberItem c.args.numbers.now ts h) in
    let one = related_at IsNumberItem c.args.numbers.now ts c.loop-position.position _ null (omega arith) h in
    let front = rw (left_first ts c.loop-position.position null short) at (c.loop-position.invariant form ts h) in
    rw (err_is c.from_residual.ensures.1) (front_step form c.loop-position.builder _ _ ts front {A = Unit {0}} c.push_item.new.self (Err c.in_err-push_item.field-0.0)
    (λ us held. c.in_err-push_item.ensures.pushed form us _ held one))

pub loop-position-preserved : goal.loop-position-preserved
loop-position-preserved c = λ form ts h.
    let short : c.loop-position.position < length ts = omega
    (arith, c.loop-position-test.true, related_length IsNumberItem c.args.numbers.now ts h) in
    let one = related_at IsNumberItem c.args.numbers.now ts c.loop-position.position _ null (omega arith) h in
    let front = rw (left_first ts c.loop-position.position null short) at (c.loop-position.invariant form ts h) in
    front_step form c.loop-position.builder _ _ ts front {A = Unit {0}} c.push_item.new.self (Ok tt)
    (λ us held. c.in_ok-push_item.ensures.pushed form us _ held one)

pub returns-clause-document : goal.returns-clause-document
returns-clause-document c = λ form ts h.
    let long : length ts ≤ c.loop-position.position = omega
    (arith, c.loop-position-test.false, related_length IsNumberItem c.args.numbers.now ts h) in
    let front = rw (left_none ts c.loop-position.position long) at (c.loop-position.invariant form ts h) in
    answered form (array_of ts) (λ v. Decodes form v.items (array_of ts)) c.build.result
    (c.build.ensures.decodes form ts (front_whole form c.loop-position.builder ts front))
