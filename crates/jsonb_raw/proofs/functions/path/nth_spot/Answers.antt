use Rattle.jsonb_raw.proofs.Lemmas.{refl, arith, drop, no_spots_left, first_left, first_marked, first_given, here, nowhere, slice_get_past, first_behind}
use Rattle.jsonb_raw.proofs.functions.path.nth_spot.Goals as goal

pub returns-in_default-clause-spot : goal.returns-in_default-clause-spot
returns-in_default-clause-spot c = λ bytes ts h.
    let few = c.in_default.ensures.left bytes ts h in rw (slice_get_past ts c.args.position (omega (arith, few))) tt

pub returns-in_default-next-clause-spot : goal.returns-in_default-next-clause-spot
returns-in_default-next-clause-spot c = λ bytes ts h.
    let left = c.in-Some.ensures.left bytes ts h in
    let none = no_spots_left _ _ _ (rw c.in_default-next.is at (c.next.ensures.steps.takes _ _ left)) in
    rw (nowhere (drop c.args.position ts) 0 _ none (first_behind ts c.args.position)) tt

pub returns-in_err-spot-clause-spot : goal.returns-in_err-spot-clause-spot
returns-in_err-spot-clause-spot c = λ bytes ts h.
    let left = c.in-Some.ensures.left bytes ts h in
    let f = first_left _ _ _ _ (c.in-Some-next.ensures.steps.takes _ _ left) in
    absurd (first_given f _ c.in_err-spot.was)

pub returns-clause-spot : goal.returns-clause-spot
returns-clause-spot c = λ bytes ts h.
    let left = c.in-Some.ensures.left bytes ts h in
    let f = first_left _ _ _ _ (c.in-Some-next.ensures.steps.takes _ _ left) in
    rw (here (drop c.args.position ts) 0 f.first f.rest _ f.split refl (first_behind ts c.args.position), c.spot_by_parts.ensures)
    (first_marked f _ c.in_ok-spot.was)
