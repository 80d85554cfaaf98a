-- The child that a step selects.
use Rattle.std.specs.Prelude.{slice_get, Option, option_and_then}
use Rattle.jsonb_doc.specs.Tree.{Tree}
use Rattle.jsonb_keypath.specs.KeyPathGrammar.{Key}
use Rattle.jsonb_raw.specs.Places.{children, child_position}

-- the child that a step selects
abbrev pub child_met : Key → Tree → Option Tree
child_met step t = option_and_then (λ n. slice_get (children t) n) (child_position step t)
