-- Values that are compared child by child.
use Rattle.std.specs.Prelude.{ℕ, Bool, List, String, ⊤}
use Rattle.std.specs.declared.alloc.Global.{Global}
use Rattle.jsonb_doc.specs.Tree.{trees_of, pairs_of}
use Rattle.jsonb_doc.specs.Equal.{is_equal, are_equal, pairs_are_equal}
use Rattle.jsonb_doc.specs.View.{number_view}
use Rattle.jsonb_doc.specs.Value.{value_tree}
use Rattle.jsonb_doc.specs.Private.Values.{trees_seen, members_seen}
use Rattle.jsonb_doc.specs.Private.Parts.{parts}
use Rattle.jsonb_doc.specs.declared.value.Value.{Value}
use Rattle.jsonb_doc.specs.declared.value.equal.Compared.{Compared}
use Rattle.jsonb_doc.specs.declared.value.equal.Compared.TheVariants.{Told, As}

-- the values of two arrays are equal, one by one
abbrev pub values_same : List Value → List Value → Bool
values_same vs ws = are_equal (trees_of (trees_seen number_view vs)) (trees_of (trees_seen number_view ws))

-- the members of two objects are equal, one by one
abbrev pub entries_same : List (String Global × Value) → List (String Global × Value) → Bool
entries_same es fs = pairs_are_equal (pairs_of (members_seen number_view es)) (pairs_of (members_seen number_view fs))

-- the values are equal
abbrev pub told : Compared → Bool
told (Told answer) = answer
told (As v w) = is_equal (value_tree v.now) (value_tree w.now)

-- the number of values in the first one that remain to be compared
abbrev pub told_parts : Compared → ℕ
told_parts (Told answer) = 0
told_parts (As v w) = parts v.now

-- nothing is left
abbrev pub IsDecided : Compared → Type 0
IsDecided (Told answer) = ⊤
IsDecided (As v w) = ⊥
