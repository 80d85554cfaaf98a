use Rattle.jsonb_raw.proofs.Lemmas.{rules, w32, to_z-of_z, arith, array_spots, met_by_key, answered}
use Rattle.jsonb_raw.proofs.functions.path.indexed_child.Goals as goal

pub returns-in_err-elements-clause-child : goal.returns-in_err-elements-clause-child
returns-in_err-elements-clause-child c = λ t m. absurd (c.in_err-elements.ensures.spots t m)

pub returns-in-Some-clause-child : goal.returns-in-Some-clause-child
returns-in-Some-clause-child c = λ t m.
    let a = array_spots _ _ t (rw c.in-Some.is at (c.in_ok-elements.ensures.spots t m)) in
    (grind (arith, answered, to_z-of_z w32 c.args.index c.ranges.index, a.1, c.spot_at.ensures.spot _ _ a.2))

pub returns-in-None-clause-child : goal.returns-in-None-clause-child
returns-in-None-clause-child c = search (rules, met_by_key)
