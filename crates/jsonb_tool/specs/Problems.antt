-- Why arguments have no result.
use Rattle.std.specs.Prelude.{◌≡◌, ◌⊎◌, ℕ, List, Option, Some, None, Ok, Err, option_map, MatchOption}
use Rattle.hex.specs.declared.error.FromHexError.{FromHexError}
use Rattle.jsonb.specs.Error.TheVariants.{OutOfMemory}
use Rattle.jsonb.specs.ErrorPosition.{key_path_error_position}
use Rattle.jsonb.specs.PathErrorPosition.{json_path_error_position}
use Rattle.jsonb_tool.specs.Output.{IsOutputOf}
use Rattle.jsonb_tool.specs.Requests.{Request, get, key, leaves, select, path_match, request_of}
use Rattle.jsonb_tool.specs.declared.problem.Problem.{Problem}
use Rattle.jsonb_tool.specs.declared.problem.Problem.TheVariants.{Command, Digits, KeyPath, JsonPath, Refused}

-- Holds for arguments that are not a command, or whose document is not hexadecimal.
abbrev pub IsUsage : Problem → Type 0
IsUsage problem = (problem ≡ Command) ⊎ ((error : FromHexError) × (problem ≡ Digits error))

-- The position of the error in the text of the request's path, if that does not parse.
abbrev pub path_problem : Request → Option Problem
path_problem (get path document) = option_map KeyPath (key_path_error_position path)
path_problem (select path document) = option_map JsonPath (json_path_error_position path)
path_problem (path_match path document) = option_map JsonPath (json_path_error_position path)
path_problem _ = None

-- Holds if nothing is found and the request has lines, or the request's error is found, unless an allocation fails.
abbrev pub IsRefusal : Request → Option Problem → Type 0
IsRefusal request None = (text : List ℕ) × IsOutputOf request (Ok text)
IsRefusal request (Some (Refused e)) = (e ≡ OutOfMemory) ⊎ IsOutputOf request (Err e)
IsRefusal request (Some _) = ⊥

-- Holds if this is why the arguments have no result: they are not a request; its path does not parse; or it fails on
-- the document. `None` if they have one.
abbrev pub IsProblemOf : List (List ℕ) → Option Problem → Type 0
IsProblemOf words found = MatchOption (request_of words) (MatchOption found ⊥ IsUsage)
    (λ request. MatchOption (path_problem request) (IsRefusal request found) (λ problem. found ≡ Some problem))
