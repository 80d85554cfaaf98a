-- Arrays as sets, whose elements are distinguished by value, and counted.
use Rattle.std.specs.Prelude.{ℕ, ◌==◌, Bool, not, List, [], ◌∷◌, count_by, filter, map, nat_lt}
use Rattle.std.specs.List.{list_any}
use Rattle.jsonb_doc.specs.Tree.{Tree}
use Rattle.jsonb_doc.specs.Equal.{is_equal}

-- The number of trees that equal this one by value.
abbrev pub count_of : Tree → List Tree → ℕ
count_of t us = count_by (λ u. is_equal u t) us

-- Each occurrence of an element in a list, after the elements `before`: the elements before it, the last of them first,
-- and itself.
abbrev pub occurrences : List Tree → List Tree → List (List Tree × Tree)
occurrences before [] = []
occurrences before (t ∷ ts) = (before, t) ∷ occurrences (t ∷ before) ts

-- The elements whose occurrences pass a test, in order.
abbrev pub select_occurrences : (List Tree × Tree → Bool) → List Tree → List Tree
select_occurrences test ts = map (λ o. o.1) (filter test (occurrences [] ts))

-- Whether fewer elements before it equal it than elements of the other list do.
abbrev pub is_shared : List Tree → List Tree × Tree → Bool
is_shared other o = nat_lt (count_of o.1 o.0) (count_of o.1 other)

-- The first of each group of equal elements: those that no element before them equals.
abbrev pub distinct : List Tree → List Tree
distinct ts = select_occurrences (λ o. count_of o.1 o.0 == 0) ts

-- The intersection of a list with another one, and the difference: each occurrence goes to one of the two.
abbrev pub intersection_of : List Tree → List Tree → List Tree
intersection_of ts other = select_occurrences (is_shared other) ts

abbrev pub difference_of : List Tree → List Tree → List Tree
difference_of ts other = select_occurrences (λ o. not (is_shared other o)) ts

-- Whether an element of one list equals one of the other.
abbrev pub overlap : List Tree → List Tree → Bool
overlap ts us = list_any (λ t. list_any (λ u. is_equal t u) us) ts
