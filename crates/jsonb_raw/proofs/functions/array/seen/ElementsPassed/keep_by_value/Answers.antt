use Rattle.jsonb_raw.proofs.Lemmas.{◌∷◌, in_order, passed_count, passed_next}
use Rattle.jsonb_raw.proofs.functions.array.seen.ElementsPassed.keep_by_value.Goals as goal

pub returns-in_err-is_kept-clause-passed : goal.returns-in_err-is_kept-clause-passed
returns-in_err-is_kept-clause-passed c = λ form other before rest t p s.
    absurd (c.in_err-is_kept.ensures.kept form p.other_form (in_order before (t ∷ rest)) other before t p.all_hold p.others_hold s
    (passed_count form c.args.self.now other before (t ∷ rest) t p))

pub returns-clause-passed : goal.returns-clause-passed
returns-clause-passed c = λ form other before rest t p s. search (passed_count, passed_next, c.in_ok-is_kept.ensures.kept, c.saturating_add-self.ensures)
