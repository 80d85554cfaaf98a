use Rattle.jsonb_raw.proofs.Lemmas.{◌≡◌, ◌+◌, take, length, vec_len, vec_capacity, keys_view, step_keys, steps_within}
use Rattle.jsonb_raw.proofs.functions.path.leaves.path_to.Given as goal

-- the steps so far, with room for the others
abbrev pub invariant-loop-outer : goal.invariant-loop-outer
invariant-loop-outer l = record {
  steps : keys_view l.paths.items ≡ step_keys (steps_within (take l.outer-index l.around));
  len : vec_len l.paths ≡ l.outer-index;
  room : vec_capacity l.paths ≡ length l.around + 1;
}
