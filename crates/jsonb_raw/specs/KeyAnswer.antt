-- Results of functions that write a sortable key.
use Rattle.std.specs.Prelude.{◌≡◌, ◌↔◌, ◌≤◌, ◌<◌, ℕ, Result, MatchResult, IfOk, Vec, IsTrue}
use Rattle.std.specs.Int.{Width}
use Rattle.std.specs.Ordering.{nat_cmp}
use Rattle.std.specs.Cmp.Lexicographic.{slice_cmp}
use Rattle.std.specs.declared.alloc.Global.{Global}
use Rattle.jsonb_doc.specs.declared.error.Error.{Error}
use Rattle.jsonb_doc.specs.declared.error.Error.TheVariants.{TooDeep}
use Rattle.jsonb_doc.specs.Answer.{IsOutOfMemory, ◌or◌when◌}
use Rattle.jsonb_doc.specs.Tree.{Tree}
use Rattle.jsonb_doc.specs.Equal.{is_equal}
use Rattle.jsonb_doc.specs.Order.{tree_cmp}
use Rattle.jsonb_raw.specs.NoExtension.{HasNoExtension}
use Rattle.jsonb_raw.specs.SortableKey.{sortable_key, depths, HasKey}

-- Holds if the result is as stated, and no item is too deep for the width, whose deepest item has this depth. It fails
-- with `TooDeep` if and only if one is.
abbrev pub GivesKey : {A : Type 0} → Width → ℕ → Result A Error → (A → Type 0) → Type 0
GivesKey w deepest_item r IsMade =
    MatchResult r (λ made. IsMade made × (deepest_item < depths w))
    (IsOutOfMemory or TooDeep when (depths w ≤ deepest_item))

-- Holds if the result for a tree without extensions compares with the key of each tree that has one as the trees do,
-- and is that key if and only if the two are equal by value.
abbrev pub RanksAsTree : Width → Tree → Result (Vec ℕ Global) Error → Type 0
RanksAsTree w t r = HasNoExtension t → (u : Tree) → HasKey w u 0 → IfOk r (λ v.
    (slice_cmp nat_cmp v.items (sortable_key w u 0) ≡ tree_cmp t u)
    × ((v.items ≡ sortable_key w u 0) ↔ IsTrue (is_equal t u)))
