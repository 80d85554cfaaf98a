use Rattle.jsonb_raw.proofs.Lemmas.{rules, inserted}
use Rattle.jsonb_raw.proofs.functions.array.counts.KeyCounts.set.Goals as goal

pub returns-in-Some : goal.returns-in-Some
returns-in-Some c = λ some other.
    inserted c.args.self.now (record { counts = c.get_mut.follows.lender c.args.count }) c.args.key.now c.args.count
    ((c.get_mut.follows.holds c.args.count).3 (search rules)) other
