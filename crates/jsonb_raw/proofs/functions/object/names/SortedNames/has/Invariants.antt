use Rattle.jsonb_raw.proofs.Lemmas.{◌≡◌, names_left, DecideFrom}
use Rattle.jsonb_raw.proofs.functions.object.names.SortedNames.has.Given as goal

abbrev pub invariant-loop-step : goal.invariant-loop-step
invariant-loop-step l = record {
  decides : DecideFrom l.fn.self.names.now l.key (names_left l.fn.self) → DecideFrom l.fn.self.names.now l.key (names_left l.self);
  names : l.self.names.now ≡ l.fn.self.names.now;
}
