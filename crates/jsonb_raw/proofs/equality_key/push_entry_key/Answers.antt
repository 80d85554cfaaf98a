use Rattle.jsonb_raw.proofs.equality_key.push_entry_key.Goals as goal

pub returns-in-Some-clause-key : goal.returns-in-Some-clause-key
returns-in-Some-clause-key c = λ form tree stored.
    let begun = rw c.in-Some.is at (c.in_ok-found.ensures.key form tree stored) in
    c.push_parts.ensures.key form tree _ begun.1 begun.0
