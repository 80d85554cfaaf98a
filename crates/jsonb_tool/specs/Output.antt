-- The outcome of a command: the lines that it prints, each with its line feed, or its error.
use Rattle.std.specs.Prelude.{◌≡◌, ◌⊎◌, ℕ, true, false, List, [], ◌∷◌, ◌++◌, Some, None, Ok, Err, IsOkAnd, IsErrAnd, MatchOption, MatchResult, codes, option_to_list}
use Rattle.std.specs.Int.{w8}
use Rattle.std.specs.List.{Any, AllZip, concat}
use Rattle.jsonb.specs.Answer.{Outcome}
use Rattle.jsonb.specs.Error.{Error}
use Rattle.jsonb.specs.Error.TheVariants.{InvalidJsonb, UnsupportedNumber, InvalidJsonPath, InvalidKeyPath, TooLarge}
use Rattle.jsonb.specs.Bytes.{AreBytes}
use Rattle.jsonb.specs.Tree.{Tree}
use Rattle.jsonb.specs.Payload.{Form, any}
use Rattle.jsonb.specs.Format.{Decodes}
use Rattle.jsonb.specs.Unsupported.{IsUnsupportedDocument, IsNoDocument}
use Rattle.jsonb.specs.Limits.{IsTooLarge}
use Rattle.jsonb.specs.KeyPathGrammar.{key_path}
use Rattle.jsonb.specs.KeyPathText.{key_path_text}
use Rattle.jsonb.specs.Depth.{deepest}
use Rattle.jsonb.specs.Leaves.{Leaf}
use Rattle.jsonb.specs.Leaves as leaf
use Rattle.jsonb.specs.Places.{tree_at_steps}
use Rattle.jsonb.specs.KeyAnswer.{GivesKey}
use Rattle.jsonb.specs.SortableKey.{sortable_key}
use Rattle.jsonb.specs.Compare.{Truth}
use Rattle.jsonb.specs.Meaning.{meaning, predicate}
use Rattle.jsonb.specs.PathGrammar.{json_path}
use Rattle.jsonb.specs.declared.selector.document.Mode.TheVariants.{Lax}
use Rattle.hex.specs.Hex.{encode_lower}
use Rattle.jsonb_tool.specs.Requests.{Request, get, key, leaves, select, path_match}

-- Holds if this error says why the bytes are not a document: they would be one if each float and each 256-bit decimal
-- were a number, or not even then.
abbrev pub IsDamage : List ℕ → Error → Type 0
IsDamage bytes e = ((e ≡ UnsupportedNumber) × IsUnsupportedDocument bytes) ⊎ ((e ≡ InvalidJsonb) × IsNoDocument bytes)

-- Holds if the outcome is as stated for the tree that the bytes decode to, in each form in which they do. If they do
-- not decode, it is the error that says why.
abbrev pub OnDocument : List ℕ → (Form → Tree → Outcome (List ℕ) → Type 0) → Outcome (List ℕ) → Type 0
OnDocument bytes IsOutcomeOn outcome = (((t : Tree) × Decodes any bytes t)
    × ((form : Form) (t : Tree) → Decodes form bytes t → IsOutcomeOn form t outcome))
    ⊎ IsErrAnd outcome (IsDamage bytes)

-- The lines as one text, or `none` if there are no lines.
abbrev pub text_of : List (List ℕ) → List ℕ
text_of [] = codes "none\n"
text_of (line ∷ lines) = concat (line ∷ lines)

-- Holds if the text is a line for each, in order, or `none`.
abbrev pub ShowsEach : {A : Type 0} → (A → List ℕ → Type 0) → List A → List ℕ → Type 0
ShowsEach IsLineOf xs text = (lines : List (List ℕ)) × AllZip IsLineOf xs lines × (text ≡ text_of lines)

-- Holds if the line is a document of the tree in hexadecimal, and this rest.
abbrev pub IsLineOf : List ℕ → Form → Tree → List ℕ → Type 0
IsLineOf rest form t line =
    (bytes : List ℕ) × AreBytes bytes × Decodes form bytes t × (line ≡ encode_lower bytes ++ rest)

-- Holds if the line is a document of the leaf in hexadecimal, a space, and the steps to the leaf as they print.
abbrev pub IsLeafLine : Form → Leaf → List ℕ → Type 0
IsLeafLine form leaf = IsLineOf (codes " " ++ key_path_text leaf.0 ++ codes "\n") form leaf.1

-- Holds if the text is a line for each tree, with a document of it, or the error is that one of the trees is too large
-- for a document.
abbrev pub ShowsTrees : Form → List Tree → Outcome (List ℕ) → Type 0
ShowsTrees form ts (Ok text) = ShowsEach (IsLineOf (codes "\n") form) ts text
ShowsTrees form ts (Err e) = (e ≡ TooLarge) × Any (IsTooLarge form) ts

-- The line of a predicate's result.
abbrev pub truth_line : Truth → List ℕ
truth_line (Some true) = codes "true\n"
truth_line (Some false) = codes "false\n"
truth_line None = codes "unknown\n"

-- Holds if this is an outcome of the request. `get` shows the tree at the location of the steps; `key` the sortable key
-- in hexadecimal, or fails if an item is too deep for one; `leaves` the leaves, also those in arrays, none of which is
-- too large for a document; `select` the items of the path in lax mode; `match` its result as a predicate in lax mode.
-- Text that is not a path is an error, and so is a path that fails on the document.
abbrev pub IsOutputOf : Request → Outcome (List ℕ) → Type 0
IsOutputOf (get path document) outcome = MatchOption (key_path path) (outcome ≡ Err InvalidKeyPath)
    (λ steps. OnDocument document (λ form t. ShowsTrees form (option_to_list (tree_at_steps steps t))) outcome)
IsOutputOf (key document) outcome = OnDocument document (λ form t said. GivesKey w8 (deepest t) said
    (λ text. text ≡ encode_lower (sortable_key w8 t 0) ++ codes "\n")) outcome
IsOutputOf (leaves document) outcome =
    OnDocument document (λ form t said. IsOkAnd said (ShowsEach (IsLeafLine form) (leaf.leaves false t))) outcome
IsOutputOf (select path document) outcome = MatchOption (json_path path) (outcome ≡ Err InvalidJsonPath)
    (λ steps. OnDocument document (λ form t said. MatchResult (meaning Lax steps t)
    (λ ts. ShowsTrees form ts said) (λ e. said ≡ Err e)) outcome)
IsOutputOf (path_match path document) outcome = MatchOption (json_path path) (outcome ≡ Err InvalidJsonPath)
    (λ steps. OnDocument document (λ form t said. MatchResult (predicate Lax steps t)
    (λ truth. said ≡ Ok (truth_line truth)) (λ e. said ≡ Err e)) outcome)
