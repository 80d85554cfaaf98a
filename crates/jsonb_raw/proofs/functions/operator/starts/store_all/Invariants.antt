use Rattle.jsonb_raw.proofs.Common.{◌≡◌, length, entries_bound, PassesOver, AreLast, AreHints}
use Rattle.jsonb_raw.proofs.functions.operator.starts.store_all.Given as goal

abbrev pub invariant-walk : goal.invariant-walk
invariant-walk l = record {
  hints : AreHints l.fn.all l.slots;
  length : length l.slots ≡ length l.fn.slots;
  passes : PassesOver l.fn.all l.rest;
  last : AreLast l.fn.all l.rest;
}

abbrev pub decreases-walk : goal.decreases-walk
decreases-walk l = entries_bound l.rest
