use Rattle.jsonb_doc.proofs.lengths.entry_at_offset.Goals as goal

pub returns-clause-entry : goal.returns-clause-entry
returns-clause-entry c = λ parts left h.
    let same = c.in_ok-left.ensures.rest parts left (rw c.split_at.ensures.front h) in
    rw (← same, ← c.split_at.ensures.back) c.split_entry.ensures
