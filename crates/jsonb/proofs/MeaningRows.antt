-- Worked paths on documents: what they select, as the definitions compute it.
use Rattle.jsonb.proofs.Common.{ℕ, pos, negsuc, true, false, List, [], ◌∷◌, Option, Some, None, Ok, Err, refl, codes, option_map, String, Outcome, InvalidJsonPath, Arithmetic, StrictPath, Overflow, Inexact, ZeroDivisor, DecimalOperand, Number, int64, uint64, decimal64, Tree, null, array, object, trees_of, pairs_of, UInt64, AreRows, Step, Expression, steps_of, Truth, meaning, predicate, Mode, Lax, Strict}
use Rattle.jsonb_doc.proofs.Common.{text}
use Rattle.jsonb_doc.specs.Tree.{boolean, number}
use Rattle.jsonb.specs.PathTree as p
use Rattle.jsonb.proofs.GrammarRows.{read}

abbrev unsigned : ℕ → Number
unsigned n = record { variant = uint64; whole = pos n; scale = 0 }

-- -1 - n
abbrev negative : ℕ → Number
negative n = record { variant = int64; whole = negsuc n; scale = 0 }

abbrev whole : ℕ → Tree
whole n = number (unsigned n)

abbrev arr : List Tree → Tree
arr ts = array (trees_of ts)

abbrev obj : List (List ℕ × Tree) → Tree
obj ps = object (pairs_of ps)

abbrev tens : Tree
tens = arr (whole 10 ∷ whole 20 ∷ whole 30 ∷ [])

abbrev number_then_text : Tree
number_then_text = arr (whole 1 ∷ text (97 ∷ []) ∷ [])

abbrev text_then_number : Tree
text_then_number = arr (text (97 ∷ []) ∷ whole 1 ∷ [])

abbrev one_element : Tree
one_element = arr (whole 1 ∷ [])

abbrev both_signs : Tree
both_signs = arr (whole 1 ∷ number (negative 1) ∷ [])

abbrev greatest_integer : Tree
greatest_integer = arr (whole 18446744073709551615 ∷ [])

abbrev nested_array : Tree
nested_array = arr (one_element ∷ [])

abbrev nulls : Tree
nulls = obj ((97 ∷ [], null) ∷ (98 ∷ [], arr (null ∷ [])) ∷ [])

abbrev mixed_array : Tree
mixed_array = arr (boolean false ∷ whole 10 ∷ obj ((107 ∷ [], text (118 ∷ [])) ∷ []) ∷ [])

abbrev home_phone : Tree
home_phone = obj ((110 ∷ [], whole 3720453) ∷ (116 ∷ [], text (104 ∷ [])) ∷ [])

abbrev phones : Tree
phones = obj ((112 ∷ [], arr (home_phone ∷ obj ((110 ∷ [], whole 5062051) ∷ []) ∷ [])) ∷ [])

-- what the path selects of the tree; `unfolding selected` opens all that it takes
selected : Mode → List ℕ × Tree → Option (Outcome (List Tree))
unfolding read
selected mode given = option_map (λ (path : List Step). meaning mode path given.1) (read given.0)

-- what the path says of the tree as a predicate
said : List ℕ × Tree → Option (Outcome Truth)
unfolding read
said given = option_map (λ (path : List Step). predicate Lax path given.1) (read given.0)

-- a row: a path, a tree, and what the path selects of it
abbrev row : String → Tree → Outcome (List Tree) → (List ℕ × Tree) × Option (Outcome (List Tree))
row path t found = ((codes path, t), Some found)

subscripts : AreRows (selected Lax) (
    row "$[last, 0]" tens (Ok (whole 30 ∷ whole 10 ∷ []))
    ∷ row "$[0, 0 to 1]" tens (Ok (whole 10 ∷ whole 10 ∷ whole 20 ∷ []))
    ∷ row "$[0 to 1]" (arr []) (Ok [])
    ∷ row "$[-1]" tens (Ok [])
    ∷ row "$[last + 2147483647]" tens (Ok [])
    ∷ row "$[-2147483648 to 2147483647]" tens (Ok (whole 10 ∷ whole 20 ∷ whole 30 ∷ []))
    ∷ [])
unfolding selected
subscripts = refl

wildcards : AreRows (selected Lax) (
    row "" one_element (Ok (one_element ∷ []))
    ∷ row "$.*" nulls (Ok (null ∷ arr (null ∷ []) ∷ []))
    ∷ row "$.**" nested_array (Ok (nested_array ∷ one_element ∷ whole 1 ∷ []))
    ∷ row "$.**{1}" nested_array (Ok (one_element ∷ []))
    ∷ [])
unfolding selected
wildcards = refl

-- the first pair that decides, or that is unknown, counts
filters : AreRows (selected Lax) (
    row "$?(@ == 1)" number_then_text (Ok (number_then_text ∷ []))
    ∷ row "$?(@ == 1)" text_then_number (Ok [])
    ∷ row "$.p[*]?(@.n == 3720453)" phones (Ok (home_phone ∷ []))
    ∷ row "$[*]?(@ starts with \"a\")" number_then_text (Ok (text (97 ∷ []) ∷ []))
    ∷ row "$[*]?(exists(@.k))" mixed_array (Ok (obj ((107 ∷ [], text (118 ∷ [])) ∷ []) ∷ []))
    ∷ row "$[*]?(-@.a)" one_element (Err InvalidJsonPath)
    ∷ row "$[*]?(-@.a)" (arr []) (Ok [])
    ∷ [])
unfolding selected
filters = refl

comparisons : AreRows (selected Lax) (
    row "1 == -1" one_element (Ok (boolean false ∷ []))
    ∷ row "$ != null" (whole 5) (Ok (boolean true ∷ []))
    ∷ row "$[0] == 1 || $[1] == 1" number_then_text (Ok (null ∷ []))
    ∷ row "$.a == 1 || $.c == 1" nulls (Ok (null ∷ []))
    ∷ row "exists($.c)" nulls (Ok (boolean false ∷ []))
    ∷ [])
unfolding selected
comparisons = refl

signs : AreRows (selected Lax) (
    row "-$[*]" both_signs (Ok (number (negative 0) ∷ whole 2 ∷ []))
    ∷ row "-$[*]" greatest_integer (Err (Arithmetic Overflow))
    ∷ row "-$[*]" (arr (whole 1 ∷ whole 18446744073709551615 ∷ [])) (Err (Arithmetic Overflow))
    ∷ row "-$" (number (negative 9223372036854775807)) (Ok (whole 9223372036854775808 ∷ []))
    ∷ row "-$.c" nulls (Ok [])
    ∷ [])
unfolding selected
signs = refl

calculations : AreRows (selected Lax) (
    row "7 - 10" one_element (Ok (number (negative 2) ∷ []))
    ∷ row "$ / 2" (whole 5) (Err (Arithmetic Inexact))
    ∷ row "$ / 0" (whole 5) (Err (Arithmetic ZeroDivisor))
    ∷ row "$ % 3" (number (negative 6)) (Ok (number (negative 0) ∷ []))
    ∷ row "$ % 0" (number (record { variant = decimal64; whole = pos 1234; scale = 2 })) (Err (Arithmetic DecimalOperand))
    ∷ row "$ * 4294967295" (whole 4294967296) (Ok (whole 18446744069414584320 ∷ []))
    ∷ row "$ * $" (whole 4294967296) (Err (Arithmetic Overflow))
    ∷ row "$[*] + 1" tens (Err InvalidJsonPath)
    ∷ [])
unfolding selected
calculations = refl

in_strict_mode : AreRows (selected Strict) (
    row "$.c" nulls (Err StrictPath)
    ∷ row "$[*]" (whole 5) (Err StrictPath)
    ∷ row "$[5]" tens (Ok [])
    ∷ row "$.**" nested_array (Ok (nested_array ∷ one_element ∷ whole 1 ∷ []))
    ∷ row "$[*]?(@.k == \"v\")" mixed_array (Err StrictPath)
    ∷ row "$[*]?(@.a + 1)" tens (Ok [])
    ∷ row "$[*] + $.c" tens (Err StrictPath)
    ∷ row "exists($.c)" nulls (Err StrictPath)
    ∷ row "-$.c" nulls (Err StrictPath)
    ∷ row "$.a == 1 || $.c == 1" nulls (Err StrictPath)
    ∷ [])
unfolding selected
in_strict_mode = refl

as_predicates : AreRows said (
    ((codes "$[0] == 1 || $[1] == 1", number_then_text), Some (Ok None))
    ∷ ((codes "$[*] > 25", tens), Some (Ok (Some true)))
    ∷ [])
unfolding said
as_predicates = refl

-- ---- paths that no text is

abbrev lit : ℕ → Expression
lit n = p.value (p.number (UInt64 n))

-- `exists(@ null)` as a filter
abbrev expression_in_exists : List Step
expression_in_exists = p.bracket_wildcard ∷ p.filter (p.exists (steps_of (p.current ∷ p.whole_expression (p.value p.null) ∷ []))) ∷ []

by_trees : AreRows {A = List Step × Tree} (λ given. meaning Lax given.0 given.1) (
    ((p.current ∷ [], one_element), Err InvalidJsonPath)
    ∷ ((p.whole_expression (lit 1) ∷ [], one_element), Ok (one_element ∷ []))
    ∷ ((p.whole_expression (p.paths (steps_of (p.root ∷ []))) ∷ [], one_element), Err InvalidJsonPath)
    ∷ ((p.root ∷ p.whole_expression (p.exists (steps_of (p.current ∷ []))) ∷ [], one_element), Ok (one_element ∷ []))
    ∷ ((p.root ∷ p.filter (p.binary p.eq (p.unary p.plus (lit 1)) (lit 1)) ∷ [], one_element), Err InvalidJsonPath)
    ∷ ((expression_in_exists, one_element), Err InvalidJsonPath)
    ∷ ((expression_in_exists, arr []), Ok [])
    ∷ [])
by_trees = refl
