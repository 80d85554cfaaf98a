-- The leaves of a document, as two columns.
use Rattle.std.specs.Prelude.{◌≡◌, ℕ, false, List, [], ◌∷◌, map, length, Result, Ok, Err, MatchResult}
use Rattle.std.specs.List.{concat, AllZip}
use Rattle.jsonb_doc.specs.declared.error.Error.{Error}
use Rattle.jsonb_doc.specs.Answer.{IsOutOfMemory}
use Rattle.jsonb_doc.specs.Tree.{Tree}
use Rattle.jsonb_doc.specs.Payload.{Form}
use Rattle.jsonb_doc.specs.Format.{Decodes}
use Rattle.jsonb.specs.KeyPathText.{key_path_text}
use Rattle.jsonb_raw.specs.Leaves.{leaves}
use Rattle.jsonb_c.specs.Status.{code}
use Rattle.jsonb_c.specs.declared.status.Status.TheVariants.{Refused}
use Rattle.jsonb_c.specs.Answers.{WritesAll}
use Rattle.jsonb_c.specs.Columns.{positions_from}
use Rattle.jsonb_c.specs.declared.leaves.LeafSizes.{LeafSizes}

-- Holds if the result is, for each leaf in stored order, the text of the path to it, and a document of it.
abbrev pub AreLeavesOf : Form → Tree → Result (List (List ℕ) × List (List ℕ)) Error → Type 0
AreLeavesOf form t answer = MatchResult answer
    (λ found. (found.0 ≡ map (λ leaf. key_path_text leaf.0) (leaves false t))
    × AllZip (λ leaf document. Decodes form document leaf.1) (leaves false t) found.1) IsOutOfMemory

-- ---- columns that are written at once

-- Holds if these are the numbers of rows and of bytes of two columns.
abbrev pub HasSizes : List (List ℕ) × List (List ℕ) → LeafSizes → Type 0
HasSizes found sizes = (sizes.rows ≡ length found.0) × (sizes.rows ≡ length found.1)
    × (sizes.path_bytes ≡ length (concat found.0)) × (sizes.document_bytes ≡ length (concat found.1))

-- Holds if the columns are delivered: the rows of each one after the other, and the offsets between them; the sizes are
-- reported. Nothing is written if they do not fit, or the call fails.
abbrev pub DeliversLeaves : List (List ℕ) → List (List ℕ) → LeafSizes → ℕ
    → Result (List (List ℕ) × List (List ℕ)) Error → Type 0
DeliversLeaves old new sizes status (Ok found) = HasSizes found sizes × WritesAll
    (concat found.0 ∷ positions_from 0 found.0 ∷ concat found.1 ∷ positions_from 0 found.1 ∷ []) old new status
DeliversLeaves old new sizes status (Err e) = HasSizes ([], []) sizes × (new ≡ old) × (status ≡ code (Refused e))
