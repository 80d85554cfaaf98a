use Rattle.jsonb_keypath.proofs.Common.{take, map, flat_map, HasWritten, IsPlainFormatter, other_key_text, key_view}
use Rattle.jsonb_keypath.proofs.display.write_others.Given as goal

-- the steps before the index are written
abbrev pub invariant-loop-step : goal.invariant-loop-step
invariant-loop-step g l =
    IsPlainFormatter l.initial.f → HasWritten g.W.Write.write_str_gives l.initial.f (flat_map other_key_text (map key_view (take l.step-index l.steps))) l.f
