use Rattle.jsonb_keypath.proofs.Common.{◌≡◌, length, repeat, unit, units, excluded, ◌<◌}
use Rattle.jsonb_keypath.proofs.TextLemmas.{gathered}
use Rattle.jsonb_keypath.proofs.token.text.units_at.Given as goal

abbrev pub invariant-loop-next : goal.invariant-loop-next
invariant-loop-next l = record {
  read : gathered l.found.items (repeat (unit (excluded l.ending)) l.rest) ≡ units (excluded l.ending) l.fn.input;
  shorter : length l.rest < length l.fn.input;
}

abbrev pub decreases-loop-next : goal.decreases-loop-next
decreases-loop-next l = length l.rest
