use Rattle.jsonb_raw.proofs.Lemmas.{◌∙◌, ap, sym, unwrap_or, arith, same_count, counted_new, counted_again}
use Rattle.jsonb_raw.proofs.functions.array.counts.KeyCounts.add.Goals as goal

pub returns-in_default-clause-more : goal.returns-in_default-clause-more
returns-in_default-clause-more c = λ few other.
    let same = c.in_ok-copy.ensures.items ∙ c.as_slice.ensures.value in
    let none = ap (λ o. unwrap_or o 0) (sym c.in_default.is ∙ c.in_ok-before.ensures.old) in
    counted_new c.args.self.now (record { counts = c.insert.new.self }) c.args.key.now c.in_ok-copy.copy same
    c.in_ok-before.ensures.updates (sym (none ∙ same_count c.args.self.now c.in_ok-copy.copy c.args.key.now same)) other

pub returns-clause-more : goal.returns-clause-more
returns-clause-more c = λ few other.
    let same = c.in_ok-copy.ensures.items ∙ c.as_slice.ensures.value in
    let had = sym c.in-Some.is ∙ c.in_ok-before.ensures.old in
    let here = ap (λ o. unwrap_or o 0) had ∙ same_count c.args.self.now c.in_ok-copy.copy c.args.key.now same in
    counted_again c.args.self.now (record { counts = c.insert.new.self }) c.set.new.self c.args.key.now c.in_ok-copy.copy _ _ same
    c.in_ok-before.ensures.updates had (omega (arith, c.saturating_add.ensures, here, few)) c.set.ensures other
