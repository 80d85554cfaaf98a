-- The bytes of a key that are made in two words.
use Rattle.std.specs.Prelude.{ℕ, List, ◌++◌, take}
use Rattle.std.specs.Int.{to_le_bytes, w64}
use Rattle.jsonb_raw.specs.declared.packed.PackedBytes.{PackedBytes}

-- the first n of the words' bytes, the lowest first
abbrev pub packed_bytes : PackedBytes → List ℕ
packed_bytes p = take p.len (to_le_bytes w64 p.first ++ to_le_bytes w64 p.second)
