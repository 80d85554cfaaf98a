use Rattle.jsonb_raw.proofs.Lemmas.{◌≡◌, ◌≤◌, ◌+◌, ◌*◌, ◌++◌, length, take, flat_map, escaped_byte}
use Rattle.jsonb_raw.proofs.key_bytes.escape_block.Given as goal

-- what is written, followed by what is left, is the whole
abbrev pub invariant-loop-piece : goal.invariant-loop-piece
invariant-loop-piece l = record {
  room : l.len + 2 * length l.left ≤ 2 * length l.block;
  size : length l.buffer ≡ 256;
  whole : take l.len l.buffer ++ flat_map escaped_byte l.left ≡ flat_map escaped_byte l.block;
}

abbrev pub decreases-loop-piece : goal.decreases-loop-piece
decreases-loop-piece l = length l.left
