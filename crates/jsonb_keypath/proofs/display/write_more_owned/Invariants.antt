use Rattle.jsonb_keypath.proofs.Common.{take, map, flat_map, HasWritten, IsPlainFormatter, other_key_text, owned_key_view}
use Rattle.jsonb_keypath.proofs.display.write_more_owned.Given as goal

-- the steps before the index are written
abbrev pub invariant-loop-step : goal.invariant-loop-step
invariant-loop-step g l =
    IsPlainFormatter l.initial.f
    → HasWritten g.W.Write.write_str_gives l.initial.f (flat_map other_key_text (map owned_key_view (take l.step-index l.steps))) l.f
