use Rattle.std.proofs.Common.{◌≡◌, take, map}
use Rattle.jsonb.specs.KeyPathViews.{key_view}
use Rattle.jsonb_c.proofs.prepared.parsing.owned_steps.Given as goal

-- the steps before the index are copied
abbrev pub invariant-loop-step : goal.invariant-loop-step
invariant-loop-step l = map key_view l.paths.items ≡ map key_view (take l.step-index l.step-items)
