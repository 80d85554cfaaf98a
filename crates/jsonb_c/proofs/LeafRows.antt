-- The rows of leaves, and the columns that they make.
use Rattle.std.proofs.Common.{◌≡◌, ◌+◌, ◌≤◌, ◌<◌, ◌++◌, ℕ, zero, suc, Bool, true, false, List, [], ◌∷◌, map, take, length, get_or, refl, sym, ap, add-one, ◌∙◌, arith, append-nil, nat_le, ◌&&◌}
use Rattle.jsonb.specs.KeyPathViews.{key_paths_view}
use Rattle.std.proofs.lemmas.Bool.Decides.{nat_tests}
use Rattle.std.specs.List.{AllZip, concat}
use Rattle.std.proofs.lemmas.List.{map-append, length-append}
use Rattle.std.proofs.lemmas.List.Folds.{concat-append}
use Rattle.jsonb_doc.specs.Payload.{Form}
use Rattle.jsonb.specs.KeyPathText.{key_path_text}
use Rattle.jsonb.specs.KeyPathGrammar.{Key}
use Rattle.jsonb.specs.KeyPaths.{KeyPaths}
use Rattle.jsonb.specs.OwnedJsonb.{OwnedJsonb}
use Rattle.jsonb_raw.specs.Making.{IsPairOf}
use Rattle.jsonb_raw.specs.Leaves.{Leaf}
use Rattle.jsonb_doc.specs.Format.{Decodes}
use Rattle.jsonb_c.specs.Columns.{positions_from}
use Rattle.jsonb_c.specs.Private.LeafColumns.{IsRowOfLeaf, LeafRow, documents_of, leaf_row, paths_of}

-- ---- columns

positions_more : (at : ℕ) (rows : List (List ℕ)) (row : List ℕ) (end : ℕ) → end ≡ at + (length (concat rows) + length row)
    → positions_from at (rows ++ row ∷ []) ≡ positions_from at rows ++ end ∷ []
positions_more at [] row end is = ap (λ n. at ∷ n ∷ []) (omega (arith, is))
positions_more at (first ∷ rows) row end is =
    let both = length-append first (concat rows) in
    ap (λ ns. at ∷ ns) (positions_more (at + length first) rows row end (omega (arith, is, both)))

pub rows_more : (rows : List (List ℕ)) (row bytes more_bytes positions more_positions : List ℕ) → more_bytes ≡ bytes ++ row
    → more_positions ≡ positions ++ length more_bytes ∷ [] → (bytes ≡ concat rows) × (positions ≡ positions_from 0 rows)
    → (more_bytes ≡ concat (rows ++ row ∷ [])) × (more_positions ≡ positions_from 0 (rows ++ row ∷ []))
rows_more rows row bytes more_bytes positions more_positions is are has =
    let joined : concat (rows ++ row ∷ []) ≡ concat rows ++ row = concat-append rows (row ∷ []) ∙ ap (λ last. concat rows ++ last) (append-nil row) in
    let same : more_bytes ≡ concat rows ++ row = is ∙ ap (λ held. held ++ row) has.0 in
    let grown : length more_bytes ≡ length (concat rows) + length row = ap length same ∙ length-append (concat rows) row in
    let more : positions_from 0 (rows ++ row ∷ []) ≡ positions_from 0 rows ++ length more_bytes ∷ [] =
    positions_more 0 rows row (length more_bytes) (omega (arith, grown)) in
    (same ∙ sym joined, are ∙ ap (λ held. held ++ length more_bytes ∷ []) has.1 ∙ sym more)

pub positions_count : (at : ℕ) (rows : List (List ℕ)) → length (positions_from at rows) ≡ suc (length rows)
positions_count at [] = refl
positions_count at (row ∷ rows) = ap suc (positions_count (at + length row) rows)

pub path_more : (found : List LeafRow) (row : LeafRow) → paths_of (found ++ row ∷ []) ≡ paths_of found ++ row.0 ∷ []
path_more found row = map-append (λ (r : LeafRow). r.0) found (row ∷ [])

pub document_more : (found : List LeafRow) (row : LeafRow) → documents_of (found ++ row ∷ []) ≡ documents_of found ++ row.1 ∷ []
document_more found row = map-append (λ (r : LeafRow). r.1) found (row ∷ [])

-- buffers that do not take a column have no room for its rows
pub no_room : (rows : List (List ℕ)) (bytes positions out offsets : List ℕ) (b : Bool)
    → b ≡ (nat_le (length bytes) (length out) && nat_le (length positions) (length offsets)) → b ≡ false
    → (bytes ≡ concat rows) × (positions ≡ positions_from 0 rows)
    → length (concat rows) ≤ length out → length (positions_from 0 rows) ≤ length offsets → ⊥
no_room rows bytes positions out offsets b is none has fits between =
    let len : length bytes ≤ length out = rw has.0 fits in
    let count : length positions ≤ length offsets = rw has.1 between in
    let yes : (nat_le (length bytes) (length out) && nat_le (length positions) (length offsets)) ≡ true = grind (arith, nat_tests) in
    cc

-- ---- rows

take_more : (found : List (KeyPaths × OwnedJsonb)) (i : ℕ) (x : KeyPaths × OwnedJsonb) → i < length found → x ≡ get_or found i x
    → take (suc i) found ≡ take i found ++ x ∷ []
take_more [] i x inside is = absurd (omega arith)
take_more (y ∷ found) zero x inside is = ap (λ (z : KeyPaths × OwnedJsonb). z ∷ []) (sym is)
take_more (y ∷ found) (suc i) x inside is = ap (λ (zs : List (KeyPaths × OwnedJsonb)). y ∷ zs) (take_more found i x (omega arith) is)

-- the rows of the first leaves, and of one more
pub rows_at : (found : List (KeyPaths × OwnedJsonb)) (i : ℕ) (x : KeyPaths × OwnedJsonb) → i < length found → x ≡ get_or found i x
    → map leaf_row (take (i + 1) found) ≡ map leaf_row (take i found) ++ leaf_row x ∷ []
rows_at found i x inside is = rw (add-one, take_more found i x inside is) (map-append leaf_row (take i found) (x ∷ []))

pub take_all : {A : Type 0} (xs : List A) (i : ℕ) → length xs ≤ i → take i xs ≡ xs
take_all [] zero le = refl
take_all [] (suc i) le = refl
take_all (x ∷ xs) zero le = absurd (omega arith)
take_all (x ∷ xs) (suc i) le = ap (λ ys. x ∷ ys) (take_all xs i (omega arith))

-- the rows of documents of the leaves are rows of the leaves
pub rows_of_leaves : (form : Form) (found : List (KeyPaths × OwnedJsonb)) (all : List Leaf) → AllZip (IsPairOf key_paths_view form) found all
    → AllZip (IsRowOfLeaf form) all (map leaf_row found)
rows_of_leaves form [] [] each = tt
rows_of_leaves form [] (leaf ∷ all) each = absurd each
rows_of_leaves form (x ∷ found) [] each = absurd each
rows_of_leaves form (x ∷ found) (leaf ∷ all) each =
    let path = ap (λ (steps : List Key). key_path_text steps) each.0.0 in
    ((path, each.0.1), rows_of_leaves form found all each.1)

-- rows of leaves, as two columns
pub columns_of : (form : Form) (all : List Leaf) (found : List LeafRow) → AllZip (IsRowOfLeaf form) all found
    → (paths_of found ≡ map (λ leaf. key_path_text leaf.0) all) × AllZip (λ leaf document. Decodes form document leaf.1) all (documents_of found)
columns_of form [] [] each = (refl, tt)
columns_of form [] (row ∷ found) each = absurd each
columns_of form (leaf ∷ all) [] each = absurd each
columns_of form (leaf ∷ all) (row ∷ found) each =
    let rest = columns_of form all found each.1 in
    let path : row.0 ≡ key_path_text leaf.0 = each.0.0 in
    (rw (path, rest.0) refl, (each.0.1, rest.1))
