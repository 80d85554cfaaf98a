-- The rules of an ordered grammar. A rule reads a front of its input, or fails.
use Rattle.std.specs.Prelude.{ℕ, zero, suc, Bool, List, [], ◌∷◌, length, drop, nat_eq, nat_lt, Option, Some, None, option_map, option_and_then, codes, if◌then◌else◌}
use Rattle.std.specs.List.{starts_with}
use Rattle.std.specs.Option.{option_or}
use Prim.Native.String.{String}

-- The outcome of a rule: a value and the rest of the input, or a failure.
abbrev pub Parsed : Type 0 → Type 0
Parsed A = Option (A × List ℕ)

abbrev pub Rule : Type 0 → Type 0
Rule A = List ℕ → Parsed A

-- The outcome with its value mapped.
abbrev pub parsed_map : {A B : Type 0} → (A → B) → Parsed A → Parsed B
parsed_map f o = option_map (λ p. (f p.0, p.1)) o

-- The rule that reads nothing and has this value.
abbrev pub give : {A : Type 0} → A → Rule A
give a = λ input. Some (a, input)

-- A sequence of rules. It fails if one of them fails, and later rules may depend on the values of earlier ones.
infixl 10 ◌>>=◌
abbrev pub ◌>>=◌ : {A B : Type 0} → Rule A → (A → Rule B) → Rule B
rule >>= next = λ input. option_and_then (λ p. next p.0 p.1) (rule input)

infixl 10 ◌>>◌
abbrev pub ◌>>◌ : {A B : Type 0} → Rule A → Rule B → Rule B
rule >> next = rule >>= λ _. next

-- An ordered choice: the second rule is tried only if the first fails.
infixr 8 ◌</>◌
abbrev pub ◌</>◌ : {A : Type 0} → Rule A → Rule A → Rule A
first </> second = λ input. option_or (first input) (second input)

-- The rule, or `None` if it fails.
abbrev pub optional : {A : Type 0} → Rule A → Rule (Option A)
optional rule = (rule >>= λ a. give (Some a)) </> give None

-- The rule that reads nothing, and fails unless the test holds.
abbrev pub only_if : Bool → Rule (Unit {0})
only_if test = λ input. if test then Some (tt, input) else None

-- Reads exactly these bytes.
abbrev pub bytes : List ℕ → Rule (Unit {0})
bytes text = λ input. if starts_with nat_eq input text then Some (tt, drop (length text) input) else None

-- Reads the characters of the text.
abbrev pub literal : String → Rule (Unit {0})
literal text = bytes (codes text)

-- One turn of a repetition. A turn that reads nothing ends it.
abbrev pub turn : {A : Type 0} → Rule (List A) → List ℕ → Parsed A → Parsed (List A)
turn more input None = Some ([], input)
turn more input (Some (a, rest)) =
    if nat_lt (length rest) (length input) then parsed_map (λ others. a ∷ others) (more rest) else Some ([], input)

-- Repeats the rule at most n times.
unfoldable pub up_to : {A : Type 0} → ℕ → Rule A → Rule (List A)
up_to zero rule input = Some ([], input)
up_to (suc n) rule input = turn (up_to n rule) input (rule input)

-- Repeats the rule until it fails. Each turn reads at least one byte, so the length of the input bounds their number.
unfoldable pub repeat : {A : Type 0} → Rule A → Rule (List A)
repeat rule input = up_to (length input) rule input

-- A list of one or more, with a separator between the members. If the rule fails after a separator, the list ends
-- before that separator.
abbrev pub list_of : {A S : Type 0} → Rule A → Rule S → Rule (List A)
list_of rule separator = do first ← rule; others ← repeat (separator >> rule); give (first ∷ others)

-- The value, if the rule reads the whole input.
abbrev pub all_consuming : {A : Type 0} → Parsed A → Option A
all_consuming (Some (a, [])) = Some a
all_consuming _ = None
