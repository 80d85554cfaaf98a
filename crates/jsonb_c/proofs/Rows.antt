-- Rows: how many there are, and one more of what is done.
use Rattle.std.proofs.Common.{◌≡◌, ◌+◌, ◌-◌, ◌<◌, ◌≤◌, ◌++◌, ℕ, zero, suc, Bool, true, false, List, [], ◌∷◌, map, flat_map, take, drop, length, set, get_or, Option, Some, None, Ok, Err, refl, ap, sym, subst, append_assoc, append-nil, add-one, ◌∙◌, arith}
use Rattle.std.specs.Prelude.{slice_get}
use Rattle.std.proofs.lemmas.List.{map-append, length-append, length-map, length-drop, length-take-le, drop-drop}
use Rattle.std.proofs.lemmas.Grind.{flat_map-append}
use Rattle.std.proofs.Math.Seq.{take-append_seam}
use Rattle.std.specs.List.{AllZip}
use Rattle.jsonb_c.specs.Status.{code}
use Rattle.jsonb_c.specs.declared.status.Status.TheVariants.{BufferTooSmall}
use Rattle.jsonb_c.specs.Answers.{IsWritten}
use Rattle.jsonb_c.specs.Private.Buffers.{Cell, Places, ShowsCell, cell_bytes, cell_status, cell_value}
use Rattle.jsonb_c.specs.Columns.{IsRow, BytesRoom, row, rows, positions_from, LacksRoom, DoneRows, AreJoined}
use Rattle.jsonb_c.specs.declared.column.join.Progress.{Progress}

-- ---- rows

pub rows_count : (bytes offsets : List ℕ) → length (rows bytes offsets) ≡ length offsets - 1
rows_count bytes (a ∷ b ∷ others) = let e = rows_count bytes (b ∷ others) in omega (arith, e)
rows_count bytes (a ∷ []) = omega arith
rows_count bytes [] = omega arith

pub count_is : (bytes offsets : List ℕ) (column : List (Option (List ℕ))) → rows bytes offsets ≡ column → length column ≡ length offsets - 1
count_is bytes offsets column is = rw (← is) (rows_count bytes offsets)

pub in_offsets : (bytes offsets : List ℕ) (column : List (Option (List ℕ))) (i : ℕ) → rows bytes offsets ≡ column → i < length column
    → i + 1 < length offsets
in_offsets bytes offsets column i is lt = let e = count_is bytes offsets column is in omega (arith, e, lt)

row_at_suc : (bytes offsets : List ℕ) (i : ℕ) → suc i < length offsets
    → slice_get (rows bytes offsets) i ≡ Some (row bytes (get_or offsets i 0) (get_or offsets (suc i) 0))
row_at_suc bytes (a ∷ b ∷ others) zero lt = refl
row_at_suc bytes (a ∷ b ∷ others) (suc i) lt = row_at_suc bytes (b ∷ others) i (omega arith)
row_at_suc bytes (a ∷ []) i lt = absurd (omega arith)
row_at_suc bytes [] i lt = absurd (omega arith)

pub row_at : (bytes offsets : List ℕ) (column : List (Option (List ℕ))) (i : ℕ) → rows bytes offsets ≡ column → i < length column
    → slice_get column i ≡ Some (row bytes (get_or offsets i 0) (get_or offsets (i + 1) 0))
row_at bytes offsets column i is lt =
    let within = in_offsets bytes offsets column i is lt in
    rw (← is, add-one) (row_at_suc bytes offsets i (omega (arith, within)))

pub take_one_more : {A : Type 0} (xs : List A) (i : ℕ) (x : A) → slice_get xs i ≡ Some x → take (suc i) xs ≡ take i xs ++ x ∷ []
take_one_more (y ∷ xs) zero x is = let e : y ≡ x = cc in ap (λ z. z ∷ []) e
take_one_more (y ∷ xs) (suc i) x is = ap (λ zs. y ∷ zs) (take_one_more xs i x is)
take_one_more [] i x is = cc

-- ---- what is written

set_behind : {A : Type 0} (vs old : List A) (x : A) → length vs < length old
    → set (vs ++ drop (length vs) old) (length vs) x ≡ (vs ++ x ∷ []) ++ drop (length (vs ++ x ∷ [])) old
set_behind [] (y ∷ old) x lt = refl
set_behind (v ∷ vs) (y ∷ old) x lt = ap (λ zs. v ∷ zs) (set_behind vs old x (omega arith))
set_behind vs [] x lt = absurd (omega arith)

length_more : {A : Type 0} (vs : List A) (x : A) → length (vs ++ x ∷ []) ≡ suc (length vs)
length_more [] x = refl
length_more (v ∷ vs) x = ap suc (length_more vs x)

written_more : {A : Type 0} (vs old new : List A) (x : A) (n : ℕ) → length vs ≡ n → n < length old → IsWritten vs old new
    → IsWritten (vs ++ x ∷ []) old (set new n x)
written_more vs old new x n is lt h =
    let lt' : length vs < length old = omega (arith, is, lt) in
    let len = length_more vs x in
    (omega (arith, len, lt'), rw (← is, h.1) (set_behind vs old x lt'))

mapped_more : {A B : Type 0} (f : A → B) (cells : List A) (old new : List B) (cell : A) (n : ℕ) → length cells ≡ n → n < length old
    → IsWritten (map f cells) old new → IsWritten (map f (cells ++ cell ∷ [])) old (set new n (f cell))
mapped_more f cells old new cell n is lt h =
    rw (map-append f cells (cell ∷ [])) (written_more (map f cells) old new (f cell) n (length-map cells f ∙ is) lt h)

-- ---- cells

pub related_more : {A B : Type 0} (R : A → B → Type 0) (xs : List A) (ys : List B) (x : A) (y : B)
    → AllZip R xs ys → R x y → AllZip R (xs ++ x ∷ []) (ys ++ y ∷ [])
related_more R [] [] x y h here = (here, tt)
related_more R (a ∷ xs) (b ∷ ys) x y h here = (h.0, related_more R xs ys x y h.1 here)
related_more R [] (b ∷ ys) x y h here = absurd h
related_more R (a ∷ xs) [] x y h here = absurd h

-- what is written for a row by a call that has this result
abbrev pub Wrote : {A : Type 0} → (List ℕ → A → A → ℕ → Type 0) → Option (List ℕ) → Cell A → Type 0
Wrote {A} Writes document cell = (old new : A) (status : ℕ) → ShowsCell cell old new status → IsRow Writes old document (new, status)

shows_cell : {A : Type 0} (cell : Cell A) (other : A) → ShowsCell cell other (cell_value other cell) (cell_status cell)
shows_cell None other = (refl, refl)
shows_cell (Some (Ok (Some x))) other = (refl, refl)
shows_cell (Some (Ok None)) other = (refl, refl)
shows_cell (Some (Err e)) other = (refl, refl)

is_row : {A : Type 0} (Writes : List ℕ → A → A → ℕ → Type 0) (other : A) (document : Option (List ℕ)) (cell : Cell A)
    → Wrote Writes document cell → IsRow Writes other document (cell_value other cell, cell_status cell)
is_row Writes other document cell wrote = wrote other (cell_value other cell) (cell_status cell) (shows_cell cell other)

are_more : {A : Type 0} (Writes : List ℕ → A → A → ℕ → Type 0) (other : A) (column : List (Option (List ℕ))) (made : List (A × ℕ))
    (document : Option (List ℕ)) (m : A × ℕ) (i : ℕ)
    → length made ≡ i → slice_get column i ≡ Some document → AllZip (IsRow Writes other) (take (length made) column) made
    → IsRow Writes other document m → AllZip (IsRow Writes other) (take (length (made ++ m ∷ [])) column) (made ++ m ∷ [])
are_more Writes other column made document m i is at all here =
    let all' : AllZip (IsRow Writes other) (take i column) made = rw (← is) all in
    rw (length_more made m, is, take_one_more column i document at) (related_more (IsRow Writes other) _ made document m all' here)

count_more : {A : Type 0} (made : List A) (m : A) (i : ℕ) → length made ≡ i → length (made ++ m ∷ []) ≡ i + 1
count_more made m i is = let e = length_more made m in omega (arith, e, is)

-- ---- a status a row, and a value

-- the statuses are written
abbrev pub AreChecked : {A : Type 0} → List ℕ → List ℕ → List (A × ℕ) → Type 0
AreChecked old new made = IsWritten (map (λ m. m.1) made) old new

-- the rows are checked, whatever value they would have
abbrev pub CheckedRows : {A : Type 0} → (List ℕ → A → A → ℕ → Type 0) → List (Option (List ℕ)) → ℕ → List ℕ → List ℕ → Type 0
CheckedRows {A} Writes column done old new = (other : A) → DoneRows Writes other column done (AreChecked old new)

-- the values and statuses are written
abbrev pub AreFilled : {A : Type 0} → List A × List ℕ → List A × List ℕ → List (A × ℕ) → Type 0
AreFilled old new made = IsWritten (map (λ m. m.0) made) old.0 new.0 × IsWritten (map (λ m. m.1) made) old.1 new.1

pub checked_more : {A : Type 0} (Writes : List ℕ → A → A → ℕ → Type 0) (other : A) (column : List (Option (List ℕ)))
    (old_statuses statuses : List ℕ) (i : ℕ) (document : Option (List ℕ)) (cell : Cell A)
    → slice_get column i ≡ Some document → i < length old_statuses
    → DoneRows Writes other column i (AreChecked old_statuses statuses) → Wrote Writes document cell
    → DoneRows Writes other column (i + 1) (AreChecked old_statuses (set statuses i (cell_status cell)))
checked_more {A} Writes other column old_statuses statuses i document cell at lt k wrote = record {
  made = k.made ++ (cell_value other cell, cell_status cell) ∷ [];
  count = count_more k.made (cell_value other cell, cell_status cell) i k.count;
  each = are_more Writes other column k.made document (cell_value other cell, cell_status cell) i k.count at k.each
      (is_row Writes other document cell wrote);
  written = mapped_more (λ (m : A × ℕ). m.1) k.made old_statuses statuses (cell_value other cell, cell_status cell) i k.count lt k.written;
}

pub filled_more : {A : Type 0} (Writes : List ℕ → A → A → ℕ → Type 0) (other : A) (column : List (Option (List ℕ)))
    (old new : List A × List ℕ) (i : ℕ) (document : Option (List ℕ)) (cell : Cell A)
    → slice_get column i ≡ Some document → i < length old.0 → i < length old.1
    → DoneRows Writes other column i (AreFilled old new) → Wrote Writes document cell
    → DoneRows Writes other column (i + 1) (AreFilled old (set new.0 i (cell_value other cell), set new.1 i (cell_status cell)))
filled_more {A} Writes other column old new i document cell at lt_values lt_statuses k wrote = record {
  made = k.made ++ (cell_value other cell, cell_status cell) ∷ [];
  count = count_more k.made (cell_value other cell, cell_status cell) i k.count;
  each = are_more Writes other column k.made document (cell_value other cell, cell_status cell) i k.count at k.each
      (is_row Writes other document cell wrote);
  written = (
    mapped_more (λ (m : A × ℕ). m.0) k.made old.0 new.0 (cell_value other cell, cell_status cell) i k.count lt_values k.written.0,
    mapped_more (λ (m : A × ℕ). m.1) k.made old.1 new.1 (cell_value other cell, cell_status cell) i k.count lt_statuses k.written.1,
  );
}

-- ---- bytes

written_len : (vs old new : List ℕ) → IsWritten vs old new → length new ≡ length old
written_len vs old new h =
    rw (h.1, length-append vs (drop (length vs) old), length-drop (length vs) old) (omega (arith, h.0))

behind : (vs old bytes : List ℕ) → length vs + length bytes ≤ length old
    → drop (length vs + length bytes) (vs ++ drop (length vs) old) ≡ drop (length (vs ++ bytes)) old
behind [] old bytes le = let e : 0 + length bytes ≡ length bytes = omega arith in rw e refl
behind (v ∷ vs) (y ∷ old) bytes le =
    let e : suc (length vs) + length bytes ≡ suc (length vs + length bytes) = omega arith in rw e (behind vs old bytes (omega arith))
behind (v ∷ vs) [] bytes le = absurd (omega arith)

behind_is : (vs old bytes : List ℕ) → length vs + length bytes ≤ length old
    → take (length vs) (vs ++ drop (length vs) old) ++ (bytes ++ drop (length vs + length bytes) (vs ++ drop (length vs) old))
    ≡ (vs ++ bytes) ++ drop (length (vs ++ bytes)) old
behind_is vs old bytes room =
    rw (take-append_seam vs (drop (length vs) old), behind vs old bytes room) (sym (append_assoc vs bytes (drop (length (vs ++ bytes)) old)))

written_behind : (vs old new made bytes : List ℕ) (at : ℕ) → length vs ≡ at → at + length bytes ≤ length new
    → made ≡ take at new ++ (bytes ++ drop (at + length bytes) new) → IsWritten vs old new → IsWritten (vs ++ bytes) old made
written_behind vs old new made bytes at is le same h =
    let len = written_len vs old new h in
    let room : length vs + length bytes ≤ length old = omega (arith, len, le, is) in
    (rw (length-append vs bytes) room, rw (same, ← is, h.1) (behind_is vs old bytes room))

-- the bytes and the status of a row
abbrev Made : Type 0
Made = List ℕ × ℕ

flat_more : (made : List Made) (m : Made) → flat_map (λ (r : Made). r.0) (made ++ m ∷ []) ≡ flat_map (λ (r : Made). r.0) made ++ m.0
flat_more made m =
    flat_map-append (λ (r : Made). r.0) made (m ∷ []) ∙ ap (λ zs. flat_map (λ (r : Made). r.0) made ++ zs) (append-nil m.0)

positions_len : (at : ℕ) (rows : List (List ℕ)) → length (positions_from at rows) ≡ suc (length rows)
positions_len at [] = refl
positions_len at (row ∷ rows) = ap suc (positions_len (at + length row) rows)

positions_more : (at : ℕ) (made : List Made) (m : Made) (x : ℕ)
    → x ≡ at + (length (flat_map (λ (r : Made). r.0) made) + length m.0)
    → positions_from at (map (λ (r : Made). r.0) (made ++ m ∷ [])) ≡ positions_from at (map (λ (r : Made). r.0) made) ++ x ∷ []
positions_more at [] m x is = ap (λ z. at ∷ z ∷ []) (omega (arith, is))
positions_more at (d ∷ made) m x is =
    let both = length-append d.0 (flat_map (λ (r : Made). r.0) made) in
    ap (λ zs. at ∷ zs) (positions_more (at + length d.0) made m x (omega (arith, is, both)))

pub joined_more : (Writes : List ℕ → List ℕ → List ℕ → ℕ → Type 0) (column : List (Option (List ℕ))) (old new : BytesRoom)
    (written bytes : List ℕ) (i at : ℕ) (document : Option (List ℕ)) (cell : Cell (List ℕ))
    → slice_get column i ≡ Some document → i + 1 < length old.1 → i < length old.2
    → DoneRows Writes [] column i (λ made. AreJoined made old new at)
    → Wrote Writes document cell → bytes ≡ cell_bytes cell
    → (at + length bytes ≤ length new.0) × (written ≡ take at new.0 ++ (bytes ++ drop (at + length bytes) new.0))
    → DoneRows Writes [] column (i + 1)
    (λ made. AreJoined made old (written, set new.1 (i + 1) (at + length bytes), set new.2 i (cell_status cell)) (at + length bytes))
joined_more Writes column old new written bytes i at document cell in_column lt_positions lt_statuses k wrote is put =
    let m : Made = (cell_bytes cell, cell_status cell) in
    let flat = flat_more k.made m in
    let sum = k.written.0 in
    let same : length bytes ≡ length m.0 = ap length is in
    let both = length-append (flat_map (λ (r : Made). r.0) k.made) m.0 in
    let ends_is = positions_more 0 k.made m (at + length bytes) (omega (arith, same, sum)) in
    let len : length (positions_from 0 (map (λ (r : Made). r.0) k.made)) ≡ i + 1 =
    let e = positions_len 0 (map (λ (r : Made). r.0) k.made) in
    let n = length-map k.made (λ (r : Made). r.0) in omega (arith, e, n, k.count) in
    record {
      made = k.made ++ m ∷ [];
      count = count_more k.made m i k.count;
      each = are_more Writes [] column k.made document m i k.count in_column k.each (is_row Writes [] document cell wrote);
      written = (
        rw flat (omega (arith, both, same, sum)),
        rw (flat, ← is) (written_behind (flat_map (λ (r : Made). r.0) k.made) old.0 new.0 written bytes at sum put.0 put.1 k.written.1),
        subst (λ zs. IsWritten zs old.1 (set new.1 (i + 1) (at + length bytes))) (sym ends_is)
            (written_more (positions_from 0 (map (λ (r : Made). r.0) k.made)) old.1 new.1 (at + length bytes) (i + 1) len lt_positions k.written.2),
        mapped_more (λ (r : Made). r.1) k.made old.2 new.2 m i k.count lt_statuses k.written.3,
      );
    }

pub placed : (bytes : List ℕ) (at : ℕ) (old new : List ℕ) (b : Bool) → b ≡ true → Places bytes at old new b
    → (at + length bytes ≤ length old) × (new ≡ take at old ++ (bytes ++ drop (at + length bytes) old))
placed bytes at old new true is h = h
placed bytes at old new false is h = cc

-- bytes after others
pub placed_both : (at : ℕ) (old mid new bytes others : List ℕ) → at + length bytes + length others ≤ length old
    → mid ≡ take at old ++ (bytes ++ drop (length bytes) (drop at old))
    → new ≡ take (at + length bytes) mid ++ (others ++ drop (length others) (drop (at + length bytes) mid))
    → (at + length (bytes ++ others) ≤ length old) × (new ≡ take at old ++ ((bytes ++ others) ++ drop (at + length (bytes ++ others)) old))
placed_both at old mid new bytes others room first second =
    let vs : List ℕ = take at old ++ bytes in
    let all = length-append bytes others in
    let len : length vs ≡ at + length bytes = omega (arith, length-append (take at old) bytes, length-take-le at old (omega arith)) in
    let mid_is : mid ≡ vs ++ drop (length vs) old =
    rw (first, len, drop-drop (length bytes) at old) (sym (append_assoc (take at old) bytes (drop (at + length bytes) old))) in
    let after : new ≡ take (length vs) (vs ++ drop (length vs) old) ++ (others ++ drop (length vs + length others) (vs ++ drop (length vs) old)) =
    rw (← mid_is, len, ← drop-drop (length others) (at + length bytes) mid) second in
    let ends : length (vs ++ others) ≡ at + length (bytes ++ others) = omega (arith, length-append vs others, len, all) in
    let joined : (vs ++ others) ++ drop (length (vs ++ others)) old ≡ take at old ++ ((bytes ++ others) ++ drop (at + length (bytes ++ others)) old) =
    rw (ends, append_assoc (take at old) bytes others) (append_assoc (take at old) (bytes ++ others) (drop (at + length (bytes ++ others)) old)) in
    (omega (arith, room, all), after ∙ behind_is vs old others (omega (arith, room, len)) ∙ joined)

pub not_placed : (bytes : List ℕ) (at : ℕ) (old new : List ℕ) (b : Bool) → b ≡ false → Places bytes at old new b
    → (length old < at + length bytes) × (new ≡ old)
not_placed bytes at old new true is h = cc
not_placed bytes at old new false is h = h

pub lacks_room : (Writes : List ℕ → List ℕ → List ℕ → ℕ → Type 0) (column : List (Option (List ℕ))) (old new : BytesRoom)
    (progress : Progress) (status : ℕ) (document : Option (List ℕ)) (cell : Cell (List ℕ))
    → slice_get column progress.rows ≡ Some document
    → DoneRows Writes [] column progress.rows (λ made. AreJoined made old new progress.bytes)
    → Wrote Writes document cell → progress.next ≡ length (cell_bytes cell)
    → length new.0 < progress.bytes + progress.next → status ≡ code BufferTooSmall → LacksRoom Writes column (length old.0) progress status
lacks_room Writes column old new progress status document cell in_column k wrote is no_room too_small =
    let len = written_len (flat_map (λ (r : Made). r.0) k.made) old.0 new.0 k.written.1 in (
      too_small,
      omega (arith, len, no_room),
      (document, (cell_bytes cell, cell_status cell), in_column, is_row Writes [] document cell wrote, is),
    )
