-- Rows of the definitions that contracts use, computed.
use Rattle.jsonb_raw.proofs.Common.{◌≡◌, ℕ, true, false, pos, negsuc, List, [], ◌∷◌, Some, None, codes, flat_map, refl, lit<, w8, w16, decimal_digit, number_from, uint64, decimal64, date, Tree, null, boolean, number, text, extension, array, object, trees_of, pairs_of, index, quoted_name, unquoted_name, array_length, array_values, array_insert, as_elements, object_keys, object_each, object_insert, has_name, element_at, named_child, without_index, without_name, location, tree_at_steps, without, has_all, has_any, leaves, texts, strip, contains, concat, sortable_key, magnitude_bytes, equality_key, column_key, distinct, intersection_of, difference_of, overlap}

abbrev n : ℕ → Tree
n value = number (number_from uint64 (pos value) 0)

abbrev list : List Tree → Tree
list ts = array (trees_of ts)

abbrev pairs : List (List ℕ × Tree) → Tree
pairs ps = object (pairs_of ps)

abbrev a : List ℕ
a = 97 ∷ []

abbrev b : List ℕ
b = 98 ∷ []

abbrev k : List ℕ
k = 107 ∷ []

abbrev v : List ℕ
v = 118 ∷ []

-- {"asd":"adf"}
abbrev one_pair : Tree
one_pair = pairs ((codes "asd", text (codes "adf")) ∷ [])

-- [false, 10, {"k":"v"}]
abbrev mixed : Tree
mixed = list (boolean false ∷ n 10 ∷ pairs ((k, text v) ∷ []) ∷ [])

-- {"a":null,"b":[null]}
abbrev nulls : Tree
nulls = pairs ((a, null) ∷ (b, list (null ∷ [])) ∷ [])

-- ---- arrays

lengths : (array_length (list (n 1 ∷ n 9 ∷ [])) ≡ Some 2)
    × (array_length one_pair ≡ None)
lengths = (refl, refl)

values_of_array : array_values (list (n 1 ∷ one_pair ∷ [])) ≡ Some (n 1 ∷ one_pair ∷ [])
values_of_array = refl

inserted : (array_insert (pos 2147483647) (n 9) (list (n 1 ∷ [])) ≡ list (n 1 ∷ n 9 ∷ []))
    × (array_insert (negsuc 2147483647) (n 9) (list (n 1 ∷ [])) ≡ list (n 9 ∷ n 1 ∷ []))
    × (array_insert (negsuc 0) (n 9) (list (n 1 ∷ one_pair ∷ [])) ≡ list (n 1 ∷ n 9 ∷ one_pair ∷ []))
    × (array_insert (negsuc 0) (n 9) (n 1) ≡ list (n 9 ∷ n 1 ∷ []))
    × (array_insert (pos 1) (n 9) (n 1) ≡ list (n 1 ∷ n 9 ∷ []))
inserted = (refl, refl, refl, refl, refl)

-- ---- objects

keys_and_values : (object_keys (pairs ((codes "a", null) ∷ (codes "b", n 1) ∷ [])) ≡ Some (list (text (codes "a") ∷ text (codes "b") ∷ [])))
    × (object_each one_pair ≡ Some ((codes "asd", text (codes "adf")) ∷ []))
    × (has_name (codes "asd") one_pair ≡ true)
keys_and_values = (refl, refl, refl)

with_key : (object_insert (codes "b") (n 1) one_pair ≡ Some (pairs ((codes "asd", text (codes "adf")) ∷ (codes "b", n 1) ∷ [])))
    × (object_insert (codes "asd") (n 1) one_pair ≡ Some (pairs ((codes "asd", n 1) ∷ [])))
    × (object_insert (codes "a") (n 1) (list (n 1 ∷ [])) ≡ None)
with_key = (refl, refl, refl)

-- ---- children

elements_at : (element_at 1 (list (n 1 ∷ n 9 ∷ [])) ≡ Some (n 9))
    × (element_at 2 (list (n 1 ∷ n 9 ∷ [])) ≡ None)
    × (element_at 0 one_pair ≡ None)
elements_at = (refl, refl, refl)

-- a key that is equal comes before one that differs in case
named : (named_child (codes "ASD") true one_pair ≡ Some (text (codes "adf")))
    × (named_child (codes "ASD") false one_pair ≡ None)
    × (named_child (codes "b") true (pairs ((codes "B", n 1) ∷ (codes "b", n 9) ∷ [])) ≡ Some (n 9))
    × (named_child (codes "aB") true (pairs ((codes "AB", n 1) ∷ (codes "ab", n 9) ∷ [])) ≡ Some (n 1))
named = (refl, refl, refl, refl)

less_one : (without_index (negsuc 0) (list (n 1 ∷ n 9 ∷ [])) ≡ Some (list (n 1 ∷ [])))
    × (without_index (negsuc 2147483647) (list (n 1 ∷ [])) ≡ Some (list (n 1 ∷ [])))
    × (without_index (pos 0) one_pair ≡ None)
    × (without_name (codes "a") (list (n 1 ∷ text (codes "a") ∷ [])) ≡ Some (list (n 1 ∷ [])))
    × (without_name (codes "asd") one_pair ≡ Some (pairs []))
    × (without_name (codes "a") (n 1) ≡ None)
less_one = (refl, refl, refl, refl, refl, refl)

-- ---- key paths

locations : (location (index (pos 2) ∷ unquoted_name k ∷ []) mixed ≡ Some (2 ∷ 0 ∷ []))
    × (location (index (negsuc 0) ∷ quoted_name k ∷ []) mixed ≡ Some (2 ∷ 0 ∷ []))
    × (location (index (negsuc 3) ∷ []) mixed ≡ None)
    × (location (index (pos 3) ∷ []) mixed ≡ None)
    × (location (unquoted_name k ∷ []) mixed ≡ None)
    × (location (index (pos 0) ∷ index (pos 0) ∷ []) mixed ≡ None)
locations = (refl, refl, refl, refl, refl, refl)

-- at an object an index denotes the key that is its decimal text
index_at_object : location (index (pos 7) ∷ []) (pairs ((55 ∷ [], text v) ∷ [])) ≡ Some (0 ∷ [])
index_at_object = rw (decimal_digit 7 (lit< tt)) refl

selected : (tree_at_steps (index (pos 2) ∷ unquoted_name k ∷ []) mixed ≡ Some (text v))
    × (tree_at_steps (index (negsuc 2) ∷ []) mixed ≡ Some (boolean false))
selected = (refl, refl)

less_selected : (without (index (pos 2) ∷ unquoted_name k ∷ []) mixed ≡ list (boolean false ∷ n 10 ∷ pairs [] ∷ []))
    × (without (index (pos 0) ∷ []) mixed ≡ list (n 10 ∷ pairs ((k, text v) ∷ []) ∷ []))
    × (without (index (negsuc 0) ∷ []) mixed ≡ list (boolean false ∷ n 10 ∷ []))
    × (without (index (pos 7) ∷ []) mixed ≡ mixed)
    × (without (index (pos 1) ∷ index (pos 0) ∷ []) mixed ≡ mixed)
    × (without [] mixed ≡ mixed)
less_selected = (refl, refl, refl, refl, refl, refl)

-- a key is a string of an object, its value is not
object_strings : (has_all (k ∷ []) (pairs ((k, text v) ∷ [])) ≡ true)
    × (has_any (v ∷ []) (pairs ((k, text v) ∷ [])) ≡ false)
object_strings = (refl, refl)

-- an array's own elements count
array_strings : (has_any (v ∷ k ∷ []) (list (n 10 ∷ text k ∷ [])) ≡ true)
    × (has_all (v ∷ k ∷ []) (list (n 10 ∷ text k ∷ [])) ≡ false)
    × (has_any (k ∷ []) mixed ≡ false)
array_strings = (refl, refl, refl)

-- an ignored array is a leaf
all_leaves : (leaves false mixed ≡ (index (pos 0) ∷ [], boolean false) ∷ (index (pos 1) ∷ [], n 10) ∷ (index (pos 2) ∷ unquoted_name k ∷ [], text v) ∷ [])
    × (leaves true mixed ≡ [])
    × (leaves false nulls ≡ (unquoted_name a ∷ [], null) ∷ (unquoted_name b ∷ index (pos 0) ∷ [], null) ∷ [])
    × (leaves true nulls ≡ (unquoted_name a ∷ [], null) ∷ (unquoted_name b ∷ [], list (null ∷ [])) ∷ [])
    × (leaves false (list (list [] ∷ pairs [] ∷ [])) ≡ (index (pos 0) ∷ [], list []) ∷ (index (pos 1) ∷ [], pairs []) ∷ [])
    × (leaves false (list []) ≡ [])
    × (leaves true (pairs []) ≡ [])
    × (leaves false (n 10) ≡ [])
all_leaves = (refl, refl, refl, refl, refl, refl, refl, refl)

-- ---- operators

all_texts : (texts nulls ≡ a ∷ b ∷ [])
    × (texts (list (text a ∷ pairs ((b, text []) ∷ []) ∷ n 1 ∷ [])) ≡ a ∷ b ∷ [] ∷ [])
all_texts = (refl, refl)

stripped : (strip nulls ≡ pairs ((b, list (null ∷ [])) ∷ []))
    × (strip (list (pairs ((a, pairs ((b, null) ∷ [])) ∷ []) ∷ [])) ≡ list (pairs ((a, pairs []) ∷ []) ∷ []))
    × (strip null ≡ null)
stripped = (refl, refl, refl)

-- an inner array is not a part of the array, and no extension value is of itself
contained : (contains (list (list (n 1 ∷ []) ∷ [])) (list (list (n 1 ∷ []) ∷ [])) ≡ true)
    × (contains (list (n 1 ∷ n 1 ∷ n 2 ∷ number (number_from decimal64 (pos 10) 1) ∷ [])) (list (n 18446744073709551615 ∷ [])) ≡ false)
    × (contains (list (n 1 ∷ n 2 ∷ list (n 1 ∷ n 3 ∷ []) ∷ [])) (list (n 1 ∷ n 3 ∷ [])) ≡ false)
    × (contains (list (n 1 ∷ [])) (n 1) ≡ true)
    × (contains (extension (date (pos 1))) (extension (date (pos 1))) ≡ false)
    × (contains (pairs ((a, n 1) ∷ (b, n 2) ∷ [])) (pairs ((b, n 1) ∷ [])) ≡ false)
contained = (refl, refl, refl, refl, refl, refl)

joined : (concat (list (n 1 ∷ [])) (list (list (n 1 ∷ []) ∷ [])) ≡ list (n 1 ∷ list (n 1 ∷ []) ∷ []))
    × (concat (n 1) (n 2) ≡ list (n 1 ∷ n 2 ∷ []))
    × (concat (pairs ((a, n 1) ∷ (b, n 2) ∷ [])) (pairs ((b, n 3) ∷ [])) ≡ pairs ((a, n 1) ∷ (b, n 3) ∷ []))
joined = (refl, refl, refl)

-- ---- sets

-- 1.0, which equals 1
abbrev decimal_one : Tree
decimal_one = number (number_from decimal64 (pos 10) 1)

abbrev repeated : List Tree
repeated = as_elements (list (n 1 ∷ n 1 ∷ n 2 ∷ decimal_one ∷ []))

abbrev ones : List Tree
ones = as_elements (list (n 1 ∷ []))

abbrev day : Tree
day = extension (date (pos 1))

sets : (difference_of repeated ones ≡ n 1 ∷ n 2 ∷ decimal_one ∷ [])
    × (intersection_of repeated ones ≡ n 1 ∷ [])
    × (distinct repeated ≡ n 1 ∷ n 2 ∷ [])
    × (difference_of (as_elements (n 1)) ones ≡ [])
    × (overlap repeated (as_elements (n 2)) ≡ true)
    × (intersection_of (as_elements day) (as_elements day) ≡ day ∷ [])
    × (overlap (as_elements day) (as_elements day) ≡ true)
    × (overlap ones (as_elements (n 2)) ≡ false)
sets = (refl, refl, refl, refl, refl, refl, refl, refl)

-- ---- keys

sortable_keys : (sortable_key w8 (n 1) 0 ≡ 0x00 ∷ 0x04 ∷ 0x81 ∷ 0x03 ∷ 0xe9 ∷ 0x02 ∷ 0x00 ∷ [])
    × (sortable_key w8 (n 100) 0 ≡ 0x00 ∷ 0x04 ∷ 0x81 ∷ 0x03 ∷ 0xeb ∷ 0x02 ∷ 0x00 ∷ [])
    × (sortable_key w8 (number (number_from decimal64 (negsuc 1233) 2)) 0 ≡ 0x00 ∷ 0x04 ∷ 0x7f ∷ 0xfc ∷ 0x15 ∷ 0xfd ∷ 0xfc ∷ 0xfb ∷ 0xfa ∷ 0xff ∷ [])
    × (sortable_key w8 (number (number_from decimal64 (pos 1) 255)) 0 ≡ 0x00 ∷ 0x04 ∷ 0x81 ∷ 0x02 ∷ 0xea ∷ 0x02 ∷ 0x00 ∷ [])
    × (sortable_key w8 (list (list (n 1 ∷ []) ∷ [])) 0 ≡ 0x00 ∷ 0x07 ∷ 0x01 ∷ 0x07 ∷ 0x02 ∷ 0x04 ∷ 0x81 ∷ 0x03 ∷ 0xe9 ∷ 0x02 ∷ 0x00 ∷ [])
    × (sortable_key w8 (pairs ((k, text v) ∷ [])) 0 ≡ 0x00 ∷ 0x06 ∷ 0x01 ∷ 0x05 ∷ 0x6b ∷ 0x00 ∷ 0x01 ∷ 0x05 ∷ 0x76 ∷ 0x00 ∷ [])
    × (sortable_key w16 (list (n 1 ∷ [])) 0 ≡ 0 ∷ 0 ∷ 7 ∷ 0 ∷ 1 ∷ 4 ∷ 0x81 ∷ 0x03 ∷ 0xe9 ∷ 0x02 ∷ 0x00 ∷ [])
unfolding magnitude_bytes
sortable_keys = (refl, refl, refl, refl, refl, refl, refl)

equality_keys : equality_key nulls ≡ 6 ∷ 0 ∷ 0 ∷ 0 ∷ 2 ∷ 5 ∷ 0x61 ∷ 0 ∷ 8 ∷ 5 ∷ 0x62 ∷ 0 ∷ 7 ∷ 0 ∷ 0 ∷ 0 ∷ 1 ∷ 8 ∷ []
equality_keys = refl

-- a string, a missing value and null, as three columns
composite_keys : flat_map (column_key w8) (Some (text v) ∷ None ∷ Some null ∷ []) ≡ 0 ∷ 5 ∷ 118 ∷ 0 ∷ 0 ∷ 0 ∷ 0 ∷ 8 ∷ []
composite_keys = refl
