-- A loop that makes a composite key: what is written, followed by the keys of the values that are left, is the whole.
use Rattle.jsonb_raw.proofs.Common.{◌≡◌, ℕ, ◌<◌, ◌≤◌, ◌+◌, List, [], ◌∷◌, flat_map, drop, length, get_or, Option, None, Some, Result, Ok, Err, refl, arith, append_assoc, append-nil, IsSomeAnd, Width, AllZip, drop_more, Tree, Form, Decodes, SameOption, Error, raw_bytes, IsOutOfMemoryOrTooDeep, depths, column_key, deepest_of_columns, AppendsColumn, RawJsonb, drop_of_length-le}
use Rattle.jsonb_raw.proofs.KeyLawProofs.{some_depth}
use Rattle.jsonb_raw.proofs.LevelKeys.{IsToward}

-- the key of all values is what is written, followed by the keys of those that are left
abbrev pub KeyLeft : Width → List ℕ → List (Option Tree) → List (Option Tree) → Type 0
KeyLeft w written left all =
    IsToward (depths w) written (flat_map (column_key w) left) (deepest_of_columns left) [] (flat_map (column_key w) all) (deepest_of_columns all)

-- at first all are left
pub key_begun : (w : Width) (all : List (Option Tree)) → KeyLeft w [] all all
key_begun w all = record { written = refl; shallow = λ h. h; deeper = omega arith }

-- the key of the next value is appended
pub key_appended : (w : Width) (old new : List ℕ) (value : Option Tree) (left all : List (Option Tree)) → KeyLeft w old (value ∷ left) all
    → AppendsColumn w value old (Ok tt) new → KeyLeft w new left all
key_appended w old new value left all h e = grind (arith, append_assoc)

-- if that fails, the whole does
pub key_refused : (w : Width) (old new : List ℕ) (value : Option Tree) (left all : List (Option Tree)) (e : Error) → KeyLeft w old (value ∷ left) all
    → AppendsColumn w value old (Err e) new → IsOutOfMemoryOrTooDeep (deepest_of_columns all) (depths w) e
key_refused w old new value left all e h k = grind arith

-- at the end the key is written
pub key_written : (w : Width) (written : List ℕ) (left all : List (Option Tree)) → left ≡ [] → KeyLeft w written left all
    → (written ≡ flat_map (column_key w) all) × (deepest_of_columns all < depths w)
key_written w written left all h e = grind (arith, append-nil, some_depth)

-- ---- columns

-- a column that is appended as a document, or as a missing one
pub column_appended : (w : Width) (form : Form) (column : Option RawJsonb) (value : Option Tree) (old new : List ℕ) (r : Result (Unit {0}) Error)
    → ((tree : Tree) → IsSomeAnd column (λ raw. Decodes form (raw_bytes raw) tree) → AppendsColumn w (Some tree) old r new)
    → (column ≡ None → AppendsColumn w None old r new)
    → SameOption (λ raw t. Decodes form (raw_bytes raw) t) column value → AppendsColumn w value old r new
column_appended w form column value old new r h e k = grind arith

-- the first of what is left, and the others
pub record FirstLeft {X Y : Type 0} (R : X → Y → Type 0) (x : X) (xs : List X) (ys : List Y) : Type 0 where
  pub first : Y
  pub others : List Y
  pub whole : ys ≡ first ∷ others
  pub holds : R x first
  pub left : AllZip R xs others

pub first_left : {X Y : Type 0} (R : X → Y → Type 0) (x : X) (xs : List X) (ys : List Y) → AllZip R (x ∷ xs) ys → FirstLeft R x xs ys
first_left R x xs ys h = grind arith

pub first_left_of : {X Y : Type 0} (R : X → Y → Type 0) (xs : List X) (i : ℕ) (d : X) (ys : List Y) → i < length xs → AllZip R (drop i xs) ys
    → FirstLeft R (get_or xs i d) (drop (i + 1) xs) ys
first_left_of R xs i d ys h e = grind (arith, first_left, drop_more)

pub none_left_of : {X Y : Type 0} (R : X → Y → Type 0) (xs : List X) (i : ℕ) (ys : List Y) → length xs ≤ i → AllZip R (drop i xs) ys → ys ≡ []
none_left_of R xs i ys h e = grind (arith, drop_of_length-le)
