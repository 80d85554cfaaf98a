use Rattle.jsonb_raw.proofs.Lemmas.{◌≡◌, ◌≤◌, ◌+◌, ◌*◌, ◌++◌, length, flat_map, escaped_byte, vec_len, vec_capacity}
use Rattle.jsonb_raw.proofs.key_bytes.push_escaped.Given as goal

-- what is written, followed by what is left, is the whole, and there is as much room for what is left
abbrev pub invariant-loop-left : goal.invariant-loop-left
invariant-loop-left l = record {
  whole : l.out.items ++ flat_map escaped_byte l.left ≡ l.fn.out.items ++ flat_map escaped_byte l.fn.bytes;
  len : vec_len l.out + 2 * length l.left ≤ vec_len l.fn.out + 2 * length l.fn.bytes;
  capacity : vec_capacity l.fn.out ≤ vec_capacity l.out;
}

abbrev pub decreases-loop-left : goal.decreases-loop-left
decreases-loop-left l = length l.left
