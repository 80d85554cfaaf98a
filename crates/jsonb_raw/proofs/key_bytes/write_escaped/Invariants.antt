use Rattle.jsonb_raw.proofs.Lemmas.{◌≡◌, ◌≤◌, ◌+◌, ◌*◌, ◌++◌, length, take, drop, flat_map, escaped_byte}
use Rattle.jsonb_raw.proofs.key_bytes.write_escaped.Given as goal

-- what is written, followed by what is left, is the whole
abbrev pub invariant-loop-byte : goal.invariant-loop-byte
invariant-loop-byte l = record {
  room : l.end ≤ l.len + 2 * l.byte-index;
  size : length l.buffer ≡ length l.fn.buffer;
  whole : take l.end l.buffer ++ flat_map escaped_byte (drop l.byte-index l.bytes) ≡ take l.len l.fn.buffer ++ flat_map escaped_byte l.bytes;
}
