-- Each rule for operands, expressions and steps reads a byte at least.
use Rattle.jsonb.proofs.Common.{ℕ, zero, suc, ◌+◌, ◌^◌, List, [], ◌∷◌, length, Bool, true, false, codes, Rule, give, ◌>>=◌, ◌>>◌, only_if, bytes, literal, list_of, ReadsSome, NeverGrows, some-no_more, grows-give, grows-then, then-some, grows-only_if, some-literal, some-quoted, some-integer_within, some-natural_below, Int64, UInt64, boolean, number, string, eq, not_eq, lt, lte, gt, gte, starts_with_op, add, subtract, multiply, divide, modulo, plus, minus, root, current, filter, Expression, spaced, spaced_inner, path_root, literal_value, operand, spaced_operand, arithmetic_operator, operator, unary_operator, unary_atom, binary_atom, path_with, group_with, exists_with, atom_with, and_with, or_with, nested_or, path_step, filter_with, another_atom, another_and}
use Rattle.jsonb.specs.PathTree.{null}
use Rattle.jsonb.proofs.InnerReadsSome.{begun, further, blank, choice, some-spaced, grows-repeat, some-spaced_inner}

-- ---- operands

some-named : {A : Type 0} (b : ℕ) (text : List ℕ) (a : A) → ReadsSome (bytes (b ∷ text) >> give a)
some-named b text a = begun (some-literal b text) (λ _. grows-give a)

pub some-path_root : (f : Bool) → ReadsSome (path_root f)
unfolding path_root
some-path_root f = choice (some-named 36 [] root) (begun (then-some (only_if f) _ (grows-only_if f) (λ _. some-literal 64 [])) (λ _. grows-give current))

some-literal_value : ReadsSome literal_value
unfolding literal_value
some-literal_value = choice (some-named 110 (codes "ull") null) (choice (some-named 116 (codes "rue") (boolean true))
    (choice (some-named 102 (codes "alse") (boolean false)) (choice (begun (some-natural_below (2 ^ 64)) (λ n. grows-give (number (UInt64 n))))
    (choice (begun (some-integer_within (2 ^ 63)) (λ z. grows-give (number (Int64 z)))) (begun some-quoted (λ text. grows-give (string text)))))))

some-spaced_operand : (f : Bool) → ReadsSome (spaced_operand f)
unfolding spaced_operand operand
some-spaced_operand f = some-spaced (operand f) (choice (begun (begun (some-path_root f) (λ first. grows-then _ _ (grows-repeat spaced_inner some-spaced_inner)
    (λ others. grows-give (first ∷ others)))) (λ steps. grows-give _)) (begun some-literal_value (λ l. grows-give _)))

some-operator : ReadsSome operator
unfolding operator arithmetic_operator
some-operator = choice (some-named 61 (codes "=") eq) (choice (some-named 33 (codes "=") not_eq) (choice (some-named 60 (codes ">") not_eq)
    (choice (some-named 60 (codes "=") lte) (choice (some-named 60 [] lt) (choice (some-named 62 (codes "=") gte) (choice (some-named 62 [] gt)
    (choice (some-named 115 (codes "tarts with") starts_with_op) (choice (some-named 43 [] add) (choice (some-named 45 [] subtract)
    (choice (some-named 42 [] multiply) (choice (some-named 47 [] divide) (some-named 37 [] modulo))))))))))))

some-unary_atom : (f : Bool) → ReadsSome (unary_atom f)
unfolding unary_atom unary_operator
some-unary_atom f = begun (choice (some-named 43 [] plus) (some-named 45 [] minus)) (λ op. further (some-spaced_operand f) (λ e. grows-give _))

some-binary_atom : (f : Bool) → ReadsSome (binary_atom f)
unfolding binary_atom
some-binary_atom f = begun (some-spaced_operand f) (λ left. further some-operator (λ op. further (some-spaced_operand f) (λ right. grows-give _)))

-- ---- expressions

some-list_of : {A B : Type 0} (rule : Rule A) (separator : Rule B) → ReadsSome rule → ReadsSome separator → ReadsSome (list_of rule separator)
some-list_of rule separator h s =
    begun h (λ first. grows-then _ _ (grows-repeat (separator >> rule) (begun s (λ _. some-no_more rule h))) (λ others. grows-give (first ∷ others)))

pub some-and_separator : ReadsSome (spaced (literal "&&"))
some-and_separator = some-spaced (literal "&&") (some-literal 38 (codes "&"))

pub some-or_separator : ReadsSome (spaced (literal "||"))
some-or_separator = some-spaced (literal "||") (some-literal 124 (codes "|"))

module _ (nested : Bool → Rule Expression) (grows-nested : (f : Bool) → NeverGrows (nested f)) where
  some-group : (f : Bool) → ReadsSome (group_with nested f)
  unfolding group_with
  some-group f =
      begun (some-literal 40 []) (λ _. blank (grows-then (nested f) _ (grows-nested f) (λ e. blank (further (some-literal 41 []) (λ _. grows-give e)))))

  pub some-path : ReadsSome (path_with nested)
  unfolding path_with
  some-path = choice some-spaced_inner (some-spaced (filter_with nested >>= λ e. give (filter e))
      (begun (begun (some-literal 63 []) (λ _. blank (some-no_more (group_with nested true) (some-group true)))) (λ e. grows-give (filter e))))

  some-exists : ReadsSome (exists_with nested)
  unfolding exists_with
  some-exists = begun (some-literal 101 (codes "xists")) (λ _. blank (further (some-literal 40 []) (λ _. blank (further (begun (some-path_root true) (λ first.
      grows-then _ _ (grows-repeat (path_with nested) some-path) (λ others. grows-give (first ∷ others))))
      (λ steps. blank (further (some-literal 41 []) (λ _. grows-give _)))))))

  pub some-atom : (f : Bool) → ReadsSome (atom_with nested f)
  unfolding atom_with
  some-atom f = choice (some-unary_atom f) (choice (some-binary_atom f) (choice (some-group f) some-exists))

  pub some-and : (f : Bool) → ReadsSome (and_with nested f)
  unfolding and_with
  some-and f = begun (some-list_of (atom_with nested f) (spaced (literal "&&")) (some-atom f) some-and_separator) (λ members. grows-give _)

  some-or : (f : Bool) → ReadsSome (or_with nested f)
  unfolding or_with
  some-or f = begun (some-list_of (and_with nested f) (spaced (literal "||")) (some-and f) some-or_separator) (λ members. grows-give _)

pub some-nested_or : (n : ℕ) (f : Bool) → ReadsSome (nested_or n f)
unfolding nested_or
some-nested_or zero f = λ input e rest r. cc
some-nested_or (suc n) f = some-or (nested_or n) (λ g. some-no_more (nested_or n g) (some-nested_or n g)) f

pub grows-nested_or : (n : ℕ) (f : Bool) → NeverGrows (nested_or n f)
grows-nested_or n f = some-no_more (nested_or n f) (some-nested_or n f)

pub some-path_step : ReadsSome path_step
unfolding path_step
some-path_step input = some-path (nested_or (length input + 1)) (grows-nested_or (length input + 1)) input

pub some-another_atom : (n : ℕ) (f : Bool) → ReadsSome (another_atom (nested_or n) f)
some-another_atom n f = begun some-and_separator (λ _. some-no_more (atom_with (nested_or n) f) (some-atom (nested_or n) (grows-nested_or n) f))

pub some-another_and : (n : ℕ) (f : Bool) → ReadsSome (another_and (nested_or n) f)
some-another_and n f = begun some-or_separator (λ _. some-no_more (and_with (nested_or n) f) (some-and (nested_or n) (grows-nested_or n) f))
