-- Columns of names.
use Rattle.std.specs.Prelude.{not, filter, ℕ, List, [], ◌∷◌, Option, Some, None, Result, Ok, Err, if◌then◌else◌}
use Rattle.std.specs.List.{list_any}
use Rattle.std.specs.Result.{result_map_both}
use Rattle.std.specs.Str.{bytes_eq, is_utf8}
use Rattle.jsonb_doc.specs.Tree.{Tree}
use Rattle.jsonb_raw.specs.Objects.{with_pairs}
use Rattle.jsonb_c.specs.declared.status.Status.TheVariants.{BadOffsets, NotUtf8}
use Rattle.jsonb_c.specs.declared.status.Status.{Status}

-- The names in the rows, or the status of the first row that has no name: its offsets are wrong, or it is not UTF-8.
abbrev pub names_of : List (Option (List ℕ)) → Result (List (List ℕ)) Status
names_of [] = Ok []
names_of (None ∷ rows) = Err BadOffsets
names_of (Some name ∷ rows) =
    if is_utf8 name then result_map_both (λ names. name ∷ names) (λ cause. cause) (names_of rows) else Err NotUtf8

-- ---- sets of names

-- The object of the members whose keys are among the names.
abbrev pub picked_names : List (List ℕ) → Tree → Option Tree
picked_names names t = with_pairs (λ ps. filter (λ p. list_any (λ name. bytes_eq name p.0) names) ps) t

-- The object of the members whose keys are not among the names.
abbrev pub dropped_names : List (List ℕ) → Tree → Option Tree
dropped_names names t = with_pairs (λ ps. filter (λ p. not (list_any (λ name. bytes_eq name p.0) names)) ps) t
