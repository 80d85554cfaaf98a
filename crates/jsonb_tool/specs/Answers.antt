-- What the program writes, and its exit status.
use Rattle.std.specs.Prelude.{◌≡◌, ◌⊎◌, ℕ, List, ◌++◌, Ok, Err, MatchOption, codes}
use Rattle.jsonb.specs.Error.TheVariants.{OutOfMemory}
use Rattle.jsonb.specs.ErrorText.{error_text}
use Rattle.jsonb_tool.specs.Requests.{request_of}
use Rattle.jsonb.specs.Answer.{Outcome}
use Rattle.jsonb_tool.specs.Output.{IsOutputOf}

-- Holds if these are the lines of a command with status 0, or the line of its error with status 1.
abbrev pub Prints : Outcome (List ℕ) → List ℕ → ℕ → Type 0
Prints (Ok text) lines status = (lines ≡ text) × (status ≡ 0)
Prints (Err e) lines status = (lines ≡ codes "refused: " ++ error_text e ++ codes "\n") × (status ≡ 1)

-- Holds if these are the lines and the status of an outcome of the request, or `usage` if the arguments are not one,
-- unless an allocation fails.
abbrev pub IsAnswer : List (List ℕ) → List ℕ → ℕ → Type 0
IsAnswer words lines status = MatchOption (request_of words) ((lines ≡ codes "usage\n") × (status ≡ 2))
    (λ request. (outcome : Outcome (List ℕ)) × IsOutputOf request outcome × Prints outcome lines status)
    ⊎ Prints (Err OutOfMemory) lines status
