-- Documents that are made, and rows that are put into them.
use Rattle.std.proofs.Common.{◌≡◌, ◌≢◌, ◌==◌, ◌+◌, ◌-◌, ◌<◌, ◌++◌, inl, inr, ℕ, zero, suc, true, false, List, [], ◌∷◌, drop, length, get_or, Option, Some, None, Result, Ok, Err, IfErr, MatchResult, Vec, refl, sym, ap, subst, add-one, arith}
use Rattle.std.specs.Prelude.{slice_get}
use Rattle.std.proofs.lemmas.Bool.Decides.{nat_tests}
use Rattle.std.specs.declared.alloc.Global.{Global}
use Rattle.jsonb_doc.specs.declared.error.Error.{Error}
use Rattle.jsonb_doc.specs.Answer.{SameOption}
use Rattle.jsonb_doc.specs.Private.Errors.{IsOutOfMemoryOrTooLarge}
use Rattle.jsonb_doc.specs.Tree.{Tree, null, boolean, number, text, extension, array, object, Trees, no_trees, tree, Pairs, no_pairs, pair, count, elements, keys, values}
use Rattle.jsonb_doc.specs.Payload.{Form, number_reader}
use Rattle.jsonb_doc.specs.Format.{Decodes, IsContent, array_header, header, object_header, scalar_header}
use Rattle.jsonb_doc.specs.Private.EntryKinds.{container_entry}
use Rattle.std.specs.List.{AllZip}
use Rattle.jsonb_raw.specs.Documents.{raw_bytes}
use Rattle.jsonb_raw.specs.declared.raw.RawJsonb.{RawJsonb}
use Rattle.jsonb_raw.proofs.ColumnLemmas.{FirstLeft, first_left}
use Rattle.jsonb_c.specs.Making.{Encodes, IsRowOf, IsValueOf, is_placed}
use Rattle.jsonb_c.specs.Private.Views.{vec_answer}

-- ---- a vector as its bytes

pub made_answer : (P : List ℕ → Type 0) (Refusals : Error → Type 0) (r : Result (Vec ℕ Global) Error)
    → MatchResult r (λ made. P made.items) Refusals → MatchResult (vec_answer r) P Refusals
made_answer P Refusals (Ok made) h = h
made_answer P Refusals (Err e) h = h

pub errors_answer : (Refusals : Error → Type 0) (r : Result (Vec ℕ Global) Error) → IfErr r Refusals → IfErr (vec_answer r) Refusals
errors_answer Refusals (Ok made) h = h
errors_answer Refusals (Err e) h = h

pub encodes : (t : Tree) (r : Result (Vec ℕ Global) Error)
    → ((form : Form) → MatchResult r (λ made. Decodes form made.items t) (IsOutOfMemoryOrTooLarge form t)) → Encodes t (vec_answer r)
encodes t r h = λ form. made_answer (λ made. Decodes form made t) (IsOutOfMemoryOrTooLarge form t) r (h form)

-- ---- rows

drop_at_suc : {A : Type 0} (xs : List A) (i : ℕ) (x : A) → slice_get xs i ≡ Some x → drop i xs ≡ x ∷ drop (suc i) xs
drop_at_suc (y ∷ xs) zero x is = cc
drop_at_suc (y ∷ xs) (suc i) x is = drop_at_suc xs i x is
drop_at_suc [] i x is = cc

drop_at : {A : Type 0} (xs : List A) (i : ℕ) (x : A) → slice_get xs i ≡ Some x → drop i xs ≡ x ∷ drop (i + 1) xs
drop_at xs i x is = rw add-one (drop_at_suc xs i x is)

pub placed_on : (column : List (Option (List ℕ))) (i : ℕ) (document : List ℕ) → slice_get column i ≡ Some (Some document)
    → is_placed (drop i column) ≡ is_placed (drop (i + 1) column)
placed_on column i document at = rw (drop_at column i (Some document) at) refl

pub not_placed_at : (column : List (Option (List ℕ))) (i : ℕ) → slice_get column i ≡ Some None → is_placed (drop i column) ≡ false
not_placed_at column i at = rw (drop_at column i None at) refl

pub row_decodes : (form : Form) (column : List (Option (List ℕ))) (ts : List Tree) (i : ℕ) (document : List ℕ)
    → AllZip (IsRowOf form) column ts → slice_get column i ≡ Some (Some document)
    → (i < length ts) × Decodes form document (get_or ts i null)
row_decodes form (row ∷ column) (t ∷ ts) zero document h at =
    let is : row ≡ Some document = cc in (omega arith, rw is at h.0)
row_decodes form (row ∷ column) (t ∷ ts) (suc i) document h at =
    let p = row_decodes form column ts i document h.1 at in (omega (arith, p.0), p.1)
row_decodes form [] ts i document h at = cc
row_decodes form (row ∷ column) [] i document h at = absurd h

pub row_there : (form : Form) (column : List (Option (List ℕ))) (ts : List Tree) (i : ℕ)
    → AllZip (IsRowOf form) column ts → slice_get column i ≡ Some None → ⊥
row_there form (row ∷ column) (t ∷ ts) zero h at = let is : row ≡ None = cc in absurd (rw is at h.0)
row_there form (row ∷ column) (t ∷ ts) (suc i) h at = row_there form column ts i h.1 at
row_there form [] ts i h at = cc
row_there form (row ∷ column) [] i h at = absurd h

pub rows_length : (form : Form) (column : List (Option (List ℕ))) (ts : List Tree) → AllZip (IsRowOf form) column ts → length column ≡ length ts
rows_length form [] [] h = refl
rows_length form (row ∷ column) (t ∷ ts) h = let e = rows_length form column ts h.1 in omega (arith, e)
rows_length form [] (t ∷ ts) h = absurd h
rows_length form (row ∷ column) [] h = absurd h

-- ---- the values of a composite key

-- the row stores the first of the values that are left
pub value_at : (form : Form) (column : List (Option (List ℕ))) (i : ℕ) (document : List ℕ) (values : List (Option Tree))
    → slice_get column i ≡ Some (Some document) → AllZip (IsValueOf form) (drop i column) values
    → FirstLeft (IsValueOf form) (Some document) (drop (i + 1) column) values
value_at form column i document values at h =
    first_left (IsValueOf form) (Some document) (drop (i + 1) column) values
    (subst (λ (rows : List (Option (List ℕ))). AllZip (IsValueOf form) rows values) (drop_at column i (Some document) at) h)

pub no_value_at : (form : Form) (column : List (Option (List ℕ))) (i : ℕ) (values : List (Option Tree)) → slice_get column i ≡ Some None
    → AllZip (IsValueOf form) (drop i column) values → ⊥
no_value_at form column i values at h =
    none values (subst (λ (rows : List (Option (List ℕ))). AllZip (IsValueOf form) rows values) (drop_at column i None at) h)
  where
    none : (values : List (Option Tree)) → AllZip (IsValueOf form) (None ∷ drop (i + 1) column) values → ⊥
    none [] k = k
    none (value ∷ values) k = k.0

no_length : (n : ℕ) → (n == 0) ≡ true → n ≡ 0
no_length n e = grind (arith, nat_tests)

-- no document is without bytes
not_headed : (kind entries : ℕ) (rest : List ℕ) → [] ≡ header kind entries ++ rest → ⊥
not_headed kind entries rest is = let e : 0 ≡ suc (suc (suc (suc (length rest)))) = ap length is in absurd (omega (arith, e))

no_container : (form : Form) (t : Tree) → IsContent (number_reader form) t container_entry [] → ⊥
no_container form null c = let kind : 5 ≡ 0 = c.0 in absurd (omega (arith, kind))
no_container form (boolean false) c = let kind : 5 ≡ 3 = c.0 in absurd (omega (arith, kind))
no_container form (boolean true) c = let kind : 5 ≡ 4 = c.0 in absurd (omega (arith, kind))
no_container form (number n) c = let kind : 5 ≡ 2 = c.0 in absurd (omega (arith, kind))
no_container form (text s) c = let kind : 5 ≡ 1 = c.0 in absurd (omega (arith, kind))
no_container form (extension x) c = let kind : 5 ≡ 6 = c.0 in absurd (omega (arith, kind))
no_container form (array ts) c = not_headed array_header (count ts) (c.1.words ++ c.1.contents) c.1.headed.joined
no_container form (object ps) c = not_headed object_header (length (keys ps)) (c.1.words ++ c.1.contents) c.1.headed.joined

no_document : (form : Form) (t : Tree) → Decodes form [] t → ⊥
no_document form t d = elim d.document [ inl c ↦ no_container form t c | inr c ↦ not_headed scalar_header 0 (c.words ++ c.contents) c.headed.joined ]

-- a row without bytes is a missing value, and another one a document
pub value_missing : (form : Form) (bytes : List ℕ) (value : Option Tree) → (length bytes == 0) ≡ true → IsValueOf form (Some bytes) value
    → SameOption {A = RawJsonb} (λ raw t. Decodes form (raw_bytes raw) t) None value
value_missing form [] None e h = tt
value_missing form [] (Some t) e h = no_document form t h
value_missing form (byte ∷ bytes) value e h = let none : length (byte ∷ bytes) ≡ 0 = no_length _ e in absurd (omega (arith, none))

pub value_there : (form : Form) (raw : RawJsonb) (bytes : List ℕ) (value : Option Tree) → (length bytes == 0) ≡ false → raw_bytes raw ≡ bytes
    → IsValueOf form (Some bytes) value → SameOption (λ raw t. Decodes form (raw_bytes raw) t) (Some raw) value
value_there form raw [] value n e h = absurd (cc)
value_there form raw (byte ∷ bytes) None n e h = cc
value_there form raw (byte ∷ bytes) (Some t) n e h = rw e h

-- ---- counts

pub elements_length : (ts : Trees) → count ts ≡ length (elements ts)
elements_length no_trees = refl
elements_length (tree t ts) = ap suc (elements_length ts)

pub values_length : (ps : Pairs) → length (keys ps) ≡ length (elements (values ps))
values_length no_pairs = refl
values_length (pair key t ps) = ap suc (values_length ps)

-- ---- pairs

pub pair_here : (rest : List (List ℕ × Tree)) (p : List ℕ × Tree) (n : ℕ) (wanted : Option (List ℕ × Tree)) → n ≡ 0
    → slice_get (p ∷ rest) n ≡ wanted → wanted ≡ Some p
pair_here rest p n wanted now same = sym (rw now at same)

pub pair_behind : (rest : List (List ℕ × Tree)) (p : List ℕ × Tree) (n : ℕ) (wanted : Option (List ℕ × Tree)) → n ≢ 0
    → slice_get (p ∷ rest) n ≡ wanted → slice_get rest (n - 1) ≡ wanted
pair_behind rest p zero wanted later same = absurd (later refl)
pair_behind rest p (suc n) wanted later same = let e : suc n - 1 ≡ n = omega arith in rw e same
