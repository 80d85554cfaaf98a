-- How private functions write to the caller's buffers, and end.
use Rattle.std.specs.Prelude.{◌≡◌, ◌⊎◌, ◌≤◌, ◌<◌, ◌+◌, ◌++◌, ℕ, Bool, true, false, List, [], map, take, drop, length, Option, Some, None, Result, Ok, Err}
use Rattle.jsonb_doc.specs.declared.error.Error.{Error}
use Rattle.jsonb_c.specs.Answers.{Found, IsWritten, Shows}
use Rattle.jsonb_c.specs.Columns.{DoneRows, Ends}
use Rattle.jsonb_c.specs.Status.{code}
use Rattle.jsonb_c.specs.declared.column.call.RowBytes.{RowBytes}
use Rattle.jsonb_c.specs.declared.column.call.RowBytes.TheVariants.{Buffered, Scalar}
use Rattle.jsonb_c.specs.declared.status.Status.TheVariants.{Absent, Answered, BadOffsets, BufferTooSmall, Refused}

-- the bytes are at an offset in the buffer, which is otherwise unchanged; or they do not fit there, and it is
-- unchanged
abbrev pub Places : List ℕ → ℕ → List ℕ → List ℕ → Bool → Type 0
Places bytes at old new true =
    (at + length bytes ≤ length old) × (new ≡ take at old ++ (bytes ++ drop (at + length bytes) old))
Places bytes at old new false = (length old < at + length bytes) × (new ≡ old)

-- the status of a call that completed this many rows of all
abbrev pub EndsAs : ℕ → ℕ → ℕ → Type 0
EndsAs done all status = ((all ≤ done) × (status ≡ code Answered)) ⊎ ((done < all) × (status ≡ code BufferTooSmall))

-- the key that a call wrote into a buffer
abbrev pub written_key : Result (Unit {0}) Error → List ℕ → Result (List ℕ) Error
written_key (Ok _) bytes = Ok bytes
written_key (Err e) bytes = Err e

-- the bytes of a row, given those in the buffer
abbrev pub row_bytes : RowBytes → List ℕ → List ℕ
row_bytes Buffered bytes = bytes
row_bytes (Scalar words content) bytes = words ++ content.now

-- the result of a row, given the bytes in the buffer
abbrev pub written_answer : Result (Option RowBytes) Error → List ℕ → Found (List ℕ)
written_answer (Ok (Some made)) bytes = Ok (Some (row_bytes made bytes))
written_answer (Ok None) bytes = Ok None
written_answer (Err e) bytes = Err e

-- the result of a row, or `None` if its offsets are wrong
abbrev pub Cell : Type 0 → Type 0
Cell A = Option (Found A)

abbrev pub cell_status : {A : Type 0} → Cell A → ℕ
cell_status None = code BadOffsets
cell_status (Some (Ok (Some x))) = code Answered
cell_status (Some (Ok None)) = code Absent
cell_status (Some (Err e)) = code (Refused e)

-- the value of the row, and another one if it has none
abbrev pub cell_value : {A : Type 0} → A → Cell A → A
cell_value other (Some (Ok (Some x))) = x
cell_value other _ = other

abbrev pub cell_bytes : Cell (List ℕ) → List ℕ
cell_bytes cell = cell_value [] cell

-- the row's value and status are delivered
abbrev pub ShowsCell : {A : Type 0} → Cell A → A → A → ℕ → Type 0
ShowsCell None old new status = (new ≡ old) × (status ≡ code BadOffsets)
ShowsCell (Some answer) old new status = Shows old new status answer

-- the result of a row, given the bytes in the buffer, or `None` if its offsets are wrong
abbrev pub written_cell : Option (Result (Option RowBytes) Error) → List ℕ → Cell (List ℕ)
written_cell None bytes = None
written_cell (Some answer) bytes = Some (written_answer answer bytes)

-- the statuses of the first rows are written, and nothing after
abbrev pub ChecksRows : {A : Type 0} → (List ℕ → A → A → ℕ → Type 0) → A → List (Option (List ℕ)) → List ℕ → List ℕ
    → ℕ → ℕ → Type 0
ChecksRows Writes other column old_statuses new_statuses done status =
    DoneRows Writes other column done (λ made. IsWritten (map (λ m. m.1) made) old_statuses new_statuses)
    × Ends (length column) (length old_statuses) done status
