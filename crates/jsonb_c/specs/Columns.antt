-- Columns: rows of documents in one buffer, and what is written for them.
use Rattle.std.specs.Prelude.{◌≡◌, ◌⊎◌, ◌<◌, ◌+◌, ◌-◌, ◌&&◌, nat_le, min, ℕ, List, [], ◌∷◌, map, flat_map, take, length, slice_range, slice_get, Option, Some, None, Result, if◌then◌else◌}
use Rattle.std.specs.List.{AllZip}
use Rattle.jsonb_c.specs.Status.{code}
use Rattle.jsonb_c.specs.declared.status.Status.{Status}
use Rattle.jsonb_c.specs.declared.status.Status.TheVariants.{Answered, BadOffsets, BufferTooSmall}
use Rattle.jsonb_c.specs.Answers.{IsWritten, With}
use Rattle.jsonb_c.specs.declared.column.join.Progress.{Progress}

-- ---- rows

-- The bytes between two offsets, which must be in order and within the data.
abbrev pub row : List ℕ → ℕ → ℕ → Option (List ℕ)
row bytes from to = if nat_le from to && nat_le to (length bytes) then Some (slice_range bytes from to) else None

-- The rows between each offset and the next.
abbrev pub rows : List ℕ → List ℕ → List (Option (List ℕ))
rows bytes (from ∷ to ∷ others) = row bytes from to ∷ rows bytes (to ∷ others)
rows bytes _ = []

-- ---- what is written for a row

-- Holds if these are the value and the status of a row: those that the call on one document writes, in place of the
-- value `other`, which is left if the row's offsets are wrong.
abbrev pub IsRow : {A : Type 0} → (List ℕ → A → A → ℕ → Type 0) → A → Option (List ℕ) → A × ℕ → Type 0
IsRow Writes other (Some document) made = Writes document other made.0 made.1
IsRow Writes other None made = (made.0 ≡ other) × (made.1 ≡ code BadOffsets)

-- Holds if this many rows are done, from the first on: `AreWritten` holds for their values and statuses.
pub record DoneRows {A : Type 0} (Writes : List ℕ → A → A → ℕ → Type 0) (other : A) (column : List (Option (List ℕ)))
    (done : ℕ) (AreWritten : List (A × ℕ) → Type 0) : Type 0 where
  pub made : List (A × ℕ)
  pub count : length made ≡ done
  pub each : AllZip (IsRow Writes other) (take (length made) column) made
  pub written : AreWritten made

-- Holds if all rows are done, or as many as there is space for.
abbrev pub Ends : ℕ → ℕ → ℕ → ℕ → Type 0
Ends all room done status =
    ((status ≡ code Answered) × (done ≡ all)) ⊎ ((status ≡ code BufferTooSmall) × (done < all) × (done ≡ room))

-- ---- a value and a status a row

-- Holds if the values and statuses of the first rows are written, and nothing after.
abbrev pub FillsRows : {A : Type 0} → (List ℕ → A → A → ℕ → Type 0) → A → List (Option (List ℕ)) → List A × List ℕ
    → List A × List ℕ → ℕ → ℕ → Type 0
FillsRows Writes other column old new done status = DoneRows Writes other column done
    (λ made. IsWritten (map (λ m. m.0) made) old.0 new.0 × IsWritten (map (λ m. m.1) made) old.1 new.1)
    × Ends (length column) (min (length old.0) (length old.1)) done status

-- ---- bytes and a status a row

-- The caller's memory for bytes, offsets and statuses.
abbrev pub BytesRoom : Type 0
BytesRoom = List ℕ × List ℕ × List ℕ

-- The offset at which each row begins, and at which the last one ends.
abbrev pub positions_from : ℕ → List (List ℕ) → List ℕ
positions_from at [] = at ∷ []
positions_from at (bytes ∷ others) = at ∷ positions_from (at + length bytes) others

-- Holds if the bytes of the next row, whose length is reported, do not fit.
abbrev pub LacksRoom : (List ℕ → List ℕ → List ℕ → ℕ → Type 0) → List (Option (List ℕ)) → ℕ → Progress → ℕ → Type 0
LacksRoom Writes column room progress status = (status ≡ code BufferTooSmall) × (room < progress.bytes + progress.next)
    × ((document : Option (List ℕ)) × (made : List ℕ × ℕ) × (slice_get column progress.rows ≡ Some document)
    × IsRow Writes [] document made × (progress.next ≡ length made.0))

-- Holds if the bytes of the rows are written one after the other, with the offsets between them and their statuses.
abbrev pub AreJoined : List (List ℕ × ℕ) → BytesRoom → BytesRoom → ℕ → Type 0
AreJoined made old new total = (length (flat_map (λ m. m.0) made) ≡ total)
    × IsWritten (flat_map (λ m. m.0) made) old.0 new.0
    × IsWritten (positions_from 0 (map (λ m. m.0) made)) old.1 new.1 × IsWritten (map (λ m. m.1) made) old.2 new.2

-- Holds if nothing is written.
abbrev pub IsUntouched : BytesRoom → BytesRoom → Progress → Type 0
IsUntouched old new progress = (progress.rows ≡ 0) × (progress.bytes ≡ 0) × (progress.next ≡ 0) × (new ≡ old)

-- Holds if the bytes of the first rows are written, if there is space for the first offset.
abbrev pub JoinsRows : (List ℕ → List ℕ → List ℕ → ℕ → Type 0) → List (Option (List ℕ)) → BytesRoom → BytesRoom
    → Progress → ℕ → Type 0
JoinsRows Writes column old new progress status =
    ((status ≡ code BufferTooSmall) × (length old.1 ≡ 0) × IsUntouched old new progress)
    ⊎ (DoneRows Writes [] column progress.rows (λ made. AreJoined made old new progress.bytes)
    × (((progress.next ≡ 0) × Ends (length column) (min (length old.1 - 1) (length old.2)) progress.rows status)
    ⊎ LacksRoom Writes column (length old.0) progress status))

-- Holds if what the call finds with its input is written for the first rows. If the input cannot be read, nothing is.
abbrev pub JoinsBy : {P : Type 0} → Result P Status → (P → List ℕ → List ℕ → List ℕ → ℕ → Type 0)
    → List (Option (List ℕ)) → BytesRoom → BytesRoom → Progress → ℕ → Type 0
JoinsBy read Writes column old new progress status =
    With read (λ input. JoinsRows (Writes input) column old new progress status)
    (λ cause. (status ≡ code cause) × IsUntouched old new progress)
