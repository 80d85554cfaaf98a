-- The position at which text ceases to be the beginning of a JSON path.
use Rattle.std.specs.Prelude.{ℕ, Bool, true, false, List, length, nat_lt, Option, Some, if◌then◌else◌}
use Rattle.jsonb_keypath.specs.Rules.{Rule, ◌>>◌, ◌</>◌, literal}
use Rattle.jsonb_keypath.specs.Tokens.{ws}
use Rattle.jsonb_keypath.specs.ErrorPosition.{perhaps, rest_after, error_position}
use Rattle.jsonb.specs.PathGrammar.{spaced_inner, rooted, spaced_operand, operator, unary_operator, expression, plain_path, json_path}

-- Reads what one of the rules reads, the one that reads more.
abbrev pub longer : {A B : Type 0} → Rule A → Rule B → Rule (Unit {0})
longer first second input =
    if nat_lt (length (rest_after input (second input))) (length (rest_after input (first input)))
    then Some (tt, rest_after input (second input)) else Some (tt, rest_after input (first input))

-- Reads the beginning of a condition that is not one: a sign; an operand and an operator; an opening parenthesis and an
-- expression; or `exists`, an opening parenthesis, and a path up to its first filter.
unfoldable pub condition_front : Bool → Rule (Unit {0})
condition_front is_in_filter =
    (unary_operator >> ws) </> (spaced_operand is_in_filter >> perhaps (operator >> ws))
    </> (literal "(" >> (ws >> perhaps (expression is_in_filter >> ws)))
    </> perhaps (literal "exists" >> (ws >> perhaps (literal "(" >> (ws >> perhaps (rooted true spaced_inner)))))

-- Reads conditions, and the beginning of another one.
unfoldable pub conditions_front : Bool → Rule (Unit {0})
conditions_front is_in_filter =
    (expression is_in_filter >> ws >> perhaps ((literal "&&" </> literal "||") >> ws >> condition_front is_in_filter))
    </> condition_front is_in_filter

-- Reads steps, and the beginning of a filter up to its first condition.
unfoldable pub steps_front : Rule (Unit {0})
steps_front = (plain_path >> ws) >> perhaps ((do ws; literal "?"; ws; literal "("; ws) >> conditions_front true)

-- Reads as much of the text as a JSON path begins with, as an expression or as steps; at most one level of
-- parentheses is entered.
unfoldable pub json_path_front : Rule (Unit {0})
json_path_front = ws >> longer (conditions_front false) steps_front

-- The position of the error in text that is not a JSON path.
abbrev pub json_path_error_position : List ℕ → Option ℕ
json_path_error_position = error_position json_path json_path_front
