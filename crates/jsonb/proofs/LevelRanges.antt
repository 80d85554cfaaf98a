-- The levels at which items are taken, as a range.
use Rattle.jsonb.proofs.Common.{◌≡◌, ◌⊎◌, ℕ, ◌+◌, min, Bool, true, false, ◌&&◌, Option, ap, ◌∙◌, nat_le, Tree, Levels, answer_at, taken_item, preorder, AreLevelsOf, is_shut, LevelRange, arith, append-nil}
use Rattle.jsonb.proofs.LevelLemmas.{preorder-shut, nothing_below, no_value_below}

-- the range has a level if an item of it is taken
pub range_taken : (levels : Option Levels) (range : LevelRange) (at n : ℕ) (is_taken : Bool) → AreLevelsOf levels range → at ≡ min n 256
    → is_taken ≡ (nat_le range.first at && nat_le at range.last) → is_taken ≡ (answer_at levels n).0
range_taken levels range at n is_taken ranged place is = is ∙ ap (λ k. nat_le range.first k && nat_le k range.last) place ∙ ranged.taken n

-- nothing below is taken
pub preorder-passed : (levels : Option Levels) (n : ℕ) (t : Tree) → ((answer_at levels n).1 ≡ false) ⊎ (is_shut levels (n + 1) ≡ true)
    → preorder levels n t ≡ taken_item levels n t
preorder-passed levels n t passed = grind (arith, preorder-shut, nothing_below, append-nil, no_value_below)
