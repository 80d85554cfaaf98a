use Rattle.jsonb_raw.proofs.Lemmas.{◌≡◌, ◌^◌, ◌+◌, ◌<◌, ◌∷◌, length, arith, keeps, follows}
use Rattle.jsonb_raw.proofs.functions.array.seen.KeysCounted.keep_by_key.Goals as goal

pub returns-clause-passed : goal.returns-clause-passed
returns-clause-passed c = λ form other before rest t h s.
    let few : length before + length (t ∷ rest) < 2 ^ 63 = h.2 in
    let key = c.in_ok-write_entry_key.ensures.key form t s in
    follows (λ b. b ≡ keeps c.args.kind other (before, t)) c.keep_element.result (λ counted. (counted, h.1.1, omega (arith, few)))
    (c.keep_element.ensures.kept other before t h.0 h.1.0 key (omega (arith, few)))
    (c.keep_element.ensures.behind other before t h.0 h.1.0 key (omega (arith, few)))
