use Rattle.jsonb_raw.proofs.Lemmas.{◌≡◌, ◌≤◌, ◌+◌, ◌*◌, ◌++◌, length, text_bytes, vec_len, vec_capacity}
use Rattle.jsonb_raw.proofs.key_bytes.push_long_text.Given as goal

-- what is written, followed by the spelling of what is left, is the whole, and there is as much room for what is left
abbrev pub invariant-loop-left : goal.invariant-loop-left
invariant-loop-left l = record {
  whole : l.out.items ++ text_bytes l.left ≡ l.fn.out.items ++ text_bytes l.fn.text;
  len : vec_len l.out + 2 * length l.left ≤ vec_len l.fn.out + 2 * length l.fn.text;
  capacity : vec_capacity l.fn.out ≤ vec_capacity l.out;
}

abbrev pub decreases-loop-left : goal.decreases-loop-left
decreases-loop-left l = length l.left
