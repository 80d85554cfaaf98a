use Rattle.jsonb_keypath.proofs.Common.{◌≡◌, length, repeat, key_list, another_key, keys_view}
use Rattle.jsonb_keypath.proofs.RepeatLemmas.{behind}
use Rattle.jsonb_keypath.proofs.parser.keys_at.Given as goal

-- the steps so far, and those that are still read
abbrev pub invariant-loop-keys : goal.invariant-loop-keys
invariant-loop-keys l = behind (keys_view l.keys.items) (repeat another_key l.rest) ≡ key_list l.fn.input

abbrev pub decreases-loop-keys : goal.decreases-loop-keys
decreases-loop-keys l = length l.rest
