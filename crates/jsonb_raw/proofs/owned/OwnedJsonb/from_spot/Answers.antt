use Rattle.jsonb_raw.proofs.owned.OwnedJsonb.from_spot.Goals as goal

pub returns-in_err-entry-clause-document : goal.returns-in_err-entry-clause-document
returns-in_err-entry-clause-document c = λ form whole t d m. absurd (c.in_err-entry.ensures.entry form whole t d m)
