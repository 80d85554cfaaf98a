use Rattle.jsonb_raw.proofs.Lemmas.{w32, to_z-of_z}
use Rattle.jsonb_raw.proofs.raw.RawJsonb.array_insert.Goals as goal

pub returns-clause-inserted : goal.returns-clause-inserted
returns-clause-inserted c = λ form t value d dv.
    rw (← to_z-of_z w32 c.args.pos c.ranges.pos)
    (c.array_with_element.ensures.inserted form t value (rw c.as_bytes.ensures d) (rw c.as_bytes-2.ensures dv))
