-- The request that a command is, and its lines in memory.
use Rattle.std.specs.Prelude.{◌≡◌, ◌⊎◌, ◌++◌, ℕ, List, [], ◌∷◌, flat_map, Option, Some, None, Result, Ok, Err, String, MatchResult, codes, string_bytes}
use Rattle.std.specs.declared.alloc.Global.{Global}
use Rattle.hex.specs.Hex.{encode_lower}
use Rattle.jsonb.specs.Error.{Error}
use Rattle.jsonb.specs.Error.TheVariants.{OutOfMemory}
use Rattle.jsonb.specs.KeyPaths.{KeyPaths}
use Rattle.jsonb.specs.KeyPathText.{key_path_text}
use Rattle.jsonb.specs.KeyPathViews.{key_paths_view}
use Rattle.jsonb.specs.OwnedJsonb.{OwnedJsonb}
use Rattle.jsonb.specs.Answer.{Outcome}
use Rattle.jsonb_tool.specs.declared.command.Command.{Command}
use Rattle.jsonb_tool.specs.declared.command.Command.TheVariants.{Get, Key, Leaves, Select, Match}
use Rattle.jsonb_tool.specs.Requests as spec
use Rattle.jsonb_tool.specs.Requests.{Request}

-- the request that a command is
abbrev pub request : Command → Request
request (Get path document) = spec.get path.now document.items
request (Key document) = spec.key document.items
request (Leaves document) = spec.leaves document.items
request (Select path document) = spec.select path.now document.items
request (Match path document) = spec.path_match path.now document.items

-- The lines are such an outcome, or the error is one, unless an allocation failed.
abbrev pub Prints : (Outcome (List ℕ) → Type 0) → Result (String Global) Error → Type 0
Prints IsOutcome answer =
    MatchResult answer (λ lines. IsOutcome (Ok (string_bytes lines))) (λ e. (e ≡ OutOfMemory) ⊎ IsOutcome (Err e))

-- the line of a document in hexadecimal
abbrev pub document_line : List ℕ → List ℕ
document_line bytes = encode_lower bytes ++ codes "\n"

-- the line of a document in hexadecimal, or of none
abbrev pub found_text : Option OwnedJsonb → List ℕ
found_text (Some document) = encode_lower document ++ codes "\n"
found_text None = codes "none\n"

-- a line for each document in hexadecimal, or that of none
abbrev pub found_lines : List OwnedJsonb → List ℕ
found_lines [] = codes "none\n"
found_lines (document ∷ documents) = flat_map document_line (document ∷ documents)

-- the line of a leaf: its document in hexadecimal, a space, and its key path as it prints
abbrev pub leaf_line : KeyPaths × OwnedJsonb → List ℕ
leaf_line leaf = encode_lower leaf.1 ++ (codes " " ++ key_path_text (key_paths_view leaf.0) ++ codes "\n")

-- a line for each leaf, or that of none
abbrev pub leaf_lines : List (KeyPaths × OwnedJsonb) → List ℕ
leaf_lines [] = codes "none\n"
leaf_lines (leaf ∷ leaves) = flat_map leaf_line (leaf ∷ leaves)
