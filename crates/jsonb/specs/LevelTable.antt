-- The effect of a recursive step at a level: whether the item is selected, and whether its children are visited.
use Rattle.std.specs.Prelude.{ℕ, ◌==◌, ◌&&◌, nat_lt, nat_le, Bool, true, Option, Some, None}
use Rattle.jsonb.specs.PathTree.{LevelEnd, level, last_level}

-- From the start to the end an item is selected. Children are visited as long as a deeper level may be selected.
abbrev pub at_level : Option LevelEnd → ℕ → ℕ → Bool × Bool
at_level None start n = (n == start, nat_lt n start)
at_level (Some (level last)) start n = (nat_le start n && nat_le n last, nat_le start last && nat_le n last)
at_level (Some last_level) start n = (nat_le start n, true)
