-- Parts of the rules, each read by a function of its own.
use Rattle.std.specs.Prelude.{ℕ, Bool, true, List, length, take, drop, Some, None, if◌then◌else◌}
use Rattle.std.specs.Str.{str_eq_ignore_ascii_case}
use Rattle.jsonb_keypath.specs.Rules.{Rule, ◌>>◌, ◌</>◌, literal}
use Rattle.jsonb_keypath.specs.Tokens.{ws}
use Rattle.jsonb_keypath.specs.ErrorPosition.{perhaps}
use Rattle.jsonb.specs.PathGrammar.{spaced_inner, spaced_operand, rooted, operator, expression, group_with, path_with}
use Rattle.jsonb.specs.PathTree.{Step, Expression}

-- these letters, each in any case
abbrev pub in_any_case : List ℕ → Rule (Unit {0})
in_any_case text input =
    if str_eq_ignore_ascii_case (take (length text) input) text then Some (tt, drop (length text) input) else None

-- the path of an operand
abbrev pub operand_steps : Bool → Rule (List Step)
operand_steps is_in_filter = rooted is_in_filter spaced_inner

-- `?( .. )`
abbrev pub filter_with : (Bool → Rule Expression) → Rule Expression
filter_with nested = do literal "?"; ws; group_with nested true

-- the path of `exists`
abbrev pub exists_steps : (Bool → Rule Expression) → Rule (List Step)
exists_steps nested = rooted true (path_with nested)

-- an operand and an operator
abbrev pub operation_front : Bool → Rule (Unit {0})
operation_front is_in_filter = spaced_operand is_in_filter >> perhaps (operator >> ws)

-- an opening parenthesis and an expression
abbrev pub group_front : Bool → Rule (Unit {0})
group_front is_in_filter = literal "(" >> (ws >> perhaps (expression is_in_filter >> ws))

-- `exists`, an opening parenthesis, and a path up to its first filter
abbrev pub exists_front : Rule (Unit {0})
exists_front = literal "exists" >> (ws >> perhaps (literal "(" >> (ws >> perhaps (operand_steps true))))

-- `&&` or `||`
abbrev pub logical_operator : Rule (Unit {0})
logical_operator = (literal "&&" </> literal "||") >> ws

-- the beginning of a filter, up to its first condition
abbrev pub opened_filter : Rule (Unit {0})
opened_filter = do ws; literal "?"; ws; literal "("; ws
