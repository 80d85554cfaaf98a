use Rattle.jsonb.proofs.Lemmas.{◌<◌, ◌≤◌, ◌+◌, [], length, drop, arith, refl, Locates, array_of, null, no_spot, err_is, related_length, related_at, left_first, left_none}
use Rattle.jsonb.proofs.selector.documents.spots_array.Goals as goal

pub returns-in_err-writer-clause-document : goal.returns-in_err-writer-clause-document
returns-in_err-writer-clause-document c = λ form top ts decodes h.
    rw (err_is c.from_residual.ensures.1) (c.in_err-writer.ensures.opened form ts (array_of ts)
    (related_length (Locates c.args.bytes.now) c.args.spots.now ts h, refl))

pub loop-spot-init : goal.loop-spot-init
loop-spot-init c = λ form top ts decodes h.
    c.in_ok-writer.ensures.opened form ts (array_of ts) (related_length (Locates c.args.bytes.now) c.args.spots.now ts h, refl)

pub returns-in_err-entry-clause-document : goal.returns-in_err-entry-clause-document
returns-in_err-entry-clause-document c = λ form top ts decodes h.
    absurd (c.in_err-entry.ensures.entry form top _ decodes
    (related_at (Locates c.args.bytes.now) c.args.spots.now ts c.loop-spot.spot-index no_spot null c.loop-spot-test.true h))

pub returns-in_err-put-clause-document : goal.returns-in_err-put-clause-document
returns-in_err-put-clause-document c = λ form top ts decodes h.
    let short : c.loop-spot.spot-index < length ts = omega
    (arith, c.loop-spot-test.true, related_length (Locates c.args.bytes.now) c.args.spots.now ts h) in
    let one = related_at (Locates c.args.bytes.now) c.args.spots.now ts c.loop-spot.spot-index no_spot null c.loop-spot-test.true h in
    rw (err_is c.from_residual-in_err-put.ensures.1) (c.in_err-put.ensures.put form _ (drop (c.loop-spot.spot-index + 1) ts) [] (array_of ts)
    (c.in_ok-entry.ensures.entry form top _ decodes one)
    (rw (left_first ts c.loop-spot.spot-index null short) at (c.loop-spot.invariant form top ts decodes h)))

pub loop-spot-preserved : goal.loop-spot-preserved
loop-spot-preserved c = λ form top ts decodes h.
    let short : c.loop-spot.spot-index < length ts = omega
    (arith, c.loop-spot-test.true, related_length (Locates c.args.bytes.now) c.args.spots.now ts h) in
    let one = related_at (Locates c.args.bytes.now) c.args.spots.now ts c.loop-spot.spot-index no_spot null c.loop-spot-test.true h in
    c.in_ok-put.ensures.put form _ (drop (c.loop-spot.spot-index + 1) ts) [] (array_of ts)
    (c.in_ok-entry.ensures.entry form top _ decodes one)
    (rw (left_first ts c.loop-spot.spot-index null short) at (c.loop-spot.invariant form top ts decodes h))

pub returns-clause-document : goal.returns-clause-document
returns-clause-document c = λ form top ts decodes h.
    let long : length ts ≤ c.loop-spot.spot-index = omega
    (arith, c.loop-spot-test.false, related_length (Locates c.args.bytes.now) c.args.spots.now ts h) in
    let written = c.finish.ensures.written form (array_of ts)
    (rw (left_none ts c.loop-spot.spot-index long) at (c.loop-spot.invariant form top ts decodes h)) in
    grind (arith, written)
