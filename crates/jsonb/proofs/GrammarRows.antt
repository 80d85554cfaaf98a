-- Rows of the JSON path grammar and of printed paths, computed from the definitions alone.
use Rattle.jsonb.proofs.Common.{ℕ, List, [], ◌∷◌, Option, Some, None, refl, codes, negsuc, option_map, digits, is_utf8, chars, encode, up_to, repeat, ws, natural, natural_below, sign, integer, integer_within, four_hex_digits, code_unit, unicode_escape, escape, unit, units, name, quoted, Int64, UInt64, Step, root, value, binary, eq, number, whole_expression, dot_field, place, entry, levels, field, entries, wildcard, named_field, bracket_field, inner, spaced_inner, path_root, literal_value, operand, spaced_operand, operator, arithmetic_operator, unary_operator, unary_atom, binary_atom, path_with, group_with, exists_with, atom_with, and_with, or_with, nested_or, expression, root_expression, first_step, front_steps, path_step, plain_path, json_path, path_text, AreRows, text}

-- the steps of the text, if it is a path; `unfolding read` opens all that it takes
unfoldable pub read : List ℕ → Option (List Step)
unfolding json_path plain_path path_step front_steps first_step root_expression expression nested_or or_with and_with atom_with exists_with group_with
    path_with binary_atom unary_atom unary_operator operator arithmetic_operator spaced_operand operand literal_value path_root spaced_inner
    inner bracket_field named_field wildcard entries field levels entry place name quoted text units unit escape unicode_escape code_unit
    four_hex_digits natural natural_below sign integer integer_within ws repeat up_to is_utf8 chars encode
read input = json_path input

-- what the path prints, if the text is one; `unfolding printed` opens all that it takes
printed : List ℕ → Option (List ℕ)
unfolding read digits
printed input = option_map path_text (read input)

paths_read : AreRows read (
    (codes "1 == -1", Some (whole_expression (binary eq (value (number (UInt64 1))) (value (number (Int64 (negsuc 0))))) ∷ []))
    ∷ (codes "", Some [])
    ∷ (codes "$.a\n", Some (root ∷ dot_field (codes "a\n") ∷ []))
    ∷ (codes "$[0, 1, 2 4]", None)
    ∷ (codes "@ > 10", None)
    ∷ [])
unfolding read
paths_read = refl

paths_printed : AreRows printed (
    (codes "$.\"a b\"", Some (codes "$.\"a b\""))
    ∷ (codes "$.1a", Some (codes "$.\"1a\""))
    ∷ (codes "$.\\u0041b", Some (codes "$.Ab"))
    ∷ (codes "$[\"x\\\"y\"]", Some (codes "$[\"x\\\"y\"]"))
    ∷ (codes "$.k == \"a\\\\b\"", Some (codes "$.k == \"a\\\\b\""))
    ∷ (codes "$[last + -2147483648]", Some (codes "$[last+-2147483648]"))
    ∷ (codes "$[last - -2147483648]", Some (codes "$[last+2147483647]"))
    ∷ (codes "$[last + -5]", Some (codes "$[last-5]"))
    ∷ (codes "k1.k2:k3", Some (codes ".k1.k2:k3"))
    ∷ (codes "$.store.book[0,1, last - 2].price", Some (codes "$.store.book[0, 1, last-2].price"))
    ∷ (codes "$[*].book.price ? (@ == 10)", Some (codes "$[*].book.price?(@ == 10)"))
    ∷ (codes "$.**{ 1 TO Last }.*", Some (codes "$.**{1 to last}.*"))
    ∷ (codes "1 == +5", Some (codes "1 == 5"))
    ∷ (codes "$.a == 1 && $.b <> 2 && (exists(@.c?(@ > 1)) || -$ )", Some (codes "($.a == 1 && $.b != 2) && (exists(@.c?(@ > 1)) || -$)"))
    ∷ (codes "-1 == 1", None)
    ∷ [])
unfolding printed
paths_printed = refl
