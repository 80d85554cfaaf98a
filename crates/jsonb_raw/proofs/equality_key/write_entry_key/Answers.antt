use Rattle.jsonb_raw.proofs.equality_key.write_entry_key.Goals as goal

pub returns-clause-key : goal.returns-clause-key
returns-clause-key c = λ form tree stored.
    rw (c.in_ok-reserve.ensures.items, c.clear.ensures.items) at (c.push_entry_key.ensures.key form tree stored)
