use Rattle.jsonb_raw.proofs.raw.RawJsonb.equality_key.Goals as goal

pub returns-clause-key : goal.returns-clause-key
returns-clause-key c = λ form tree d. c.item_key.ensures.key form tree (c.in_ok-root_item.ensures.decodes form tree (rw c.as_bytes.ensures d))
