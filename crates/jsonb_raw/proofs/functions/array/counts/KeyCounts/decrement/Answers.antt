use Rattle.jsonb_raw.proofs.Lemmas.{◌∙◌, ◌-◌, ap, unwrap_or, rules, counted_less}
use Rattle.jsonb_raw.proofs.functions.array.counts.KeyCounts.decrement.Goals as goal

pub returns-in-Some-clause-less : goal.returns-in-Some-clause-less
returns-in-Some-clause-less c = λ other.
    let w = c.saturating_sub.result in
    counted_less c.args.self.now (record { counts = c.get_mut.follows.lender w }) c.args.key.now w ((c.get_mut.follows.holds w).3 (search rules))
    (c.saturating_sub.ensures ∙ ap (λ o. unwrap_or o 0 - 1) c.in-Some.ensures.value) other
