-- Columns of names: one name more of what is read.
use Rattle.std.proofs.Common.{◌≡◌, ◌⊎◌, inl, inr, ℕ, suc, zero, ◌+◌, List, [], ◌∷◌, ◌++◌, map, drop, length, Option, Some, None, Result, Ok, Err, refl, ap, sym, ◌∙◌, arith, append_assoc}
use Rattle.std.specs.Prelude.{slice_get, if◌then◌else◌}
use Rattle.std.specs.Result.{result_map_both}
use Rattle.std.proofs.Common.{Bool, true, false}
use Rattle.std.proofs.lemmas.List.{map-append}
use Rattle.std.proofs.lemmas.Str.{IsUtf8-from_is_utf8, is_utf8-from_IsUtf8}
use Rattle.std.specs.Borrow.{Bor}
use Rattle.std.specs.Str.{IsUtf8, is_utf8}
use Rattle.jsonb_doc.specs.declared.error.Error.TheVariants.{OutOfMemory}
use Rattle.jsonb_c.specs.Names.{names_of}
use Rattle.jsonb_c.specs.Private.NameColumns.{name_of}
use Rattle.jsonb_c.specs.Answers.{With}
use Rattle.jsonb_c.specs.declared.status.Status.{Status}
use Rattle.jsonb_c.specs.declared.status.Status.TheVariants.{NotUtf8, Refused}

-- the name, and those of the rows after
abbrev in_front : Result (List ℕ) Status → Result (List (List ℕ)) Status → Result (List (List ℕ)) Status
in_front (Ok name) others = result_map_both (λ names. name ∷ names) (λ cause. cause) others
in_front (Err cause) others = Err cause

first_row : (row : Option (List ℕ)) (rows : List (Option (List ℕ)))
    → names_of (row ∷ rows) ≡ in_front (name_of row) (names_of rows)
first_row None rows = refl
first_row (Some name) rows = by_form (is_utf8 name)
  where
    by_form : (b : Bool)
        → (if b then result_map_both (λ names. name ∷ names) (λ cause. cause) (names_of rows) else Err NotUtf8)
        ≡ in_front (if b then Ok name else Err NotUtf8) (names_of rows)
    by_form true = refl
    by_form false = refl

-- the names that are read so far, with those of the rows after
abbrev pub behind : List (List ℕ) → Result (List (List ℕ)) Status → Result (List (List ℕ)) Status
behind names (Ok others) = Ok (names ++ others)
behind names (Err cause) = Err cause

at : {A : Type 0} (xs : List A) (i : ℕ) (x : A) → slice_get xs i ≡ Some x → drop i xs ≡ x ∷ drop (suc i) xs
at (y ∷ xs) zero x is = let e : y ≡ x = cc in rw e refl
at (y ∷ xs) (suc i) x is = at xs i x is
at [] i x is = cc

one_more : (names : List (List ℕ)) (name : List ℕ) (r : Result (List (List ℕ)) Status)
    → behind names (in_front (Ok name) r) ≡ behind (names ++ name ∷ []) r
one_more names name (Ok others) = ap Ok (sym (append_assoc names (name ∷ []) others))
one_more names name (Err cause) = refl

pub names_more : (rows : List (Option (List ℕ))) (i : ℕ) (row : Option (List ℕ)) (names : List (List ℕ)) (name : List ℕ)
    → slice_get rows i ≡ Some row → name_of row ≡ Ok name → names_of rows ≡ behind names (names_of (drop i rows))
    → names_of rows ≡ behind (names ++ name ∷ []) (names_of (drop (i + 1) rows))
names_more rows i row names name here is so_far =
    let next : i + 1 ≡ suc i = omega arith in
    let e : names_of (drop i rows) ≡ in_front (Ok name) (names_of (drop (suc i) rows)) =
    rw (at rows i row here) (first_row row (drop (suc i) rows) ∙ ap (λ r. in_front r (names_of (drop (suc i) rows))) is) in
    rw next (so_far ∙ ap (behind names) e ∙ one_more names name (names_of (drop (suc i) rows)))

pub names_wrong : (rows : List (Option (List ℕ))) (i : ℕ) (row : Option (List ℕ)) (names : List (List ℕ)) (cause : Status)
    → slice_get rows i ≡ Some row → name_of row ≡ Err cause → names_of rows ≡ behind names (names_of (drop i rows))
    → names_of rows ≡ Err cause
names_wrong rows i row names cause here is so_far =
    let e : names_of (drop i rows) ≡ Err cause =
    rw (at rows i row here) (first_row row (drop (suc i) rows) ∙ ap (λ r. in_front r (names_of (drop (suc i) rows))) is) in
    so_far ∙ ap (behind names) e

-- as many names are read as there are rows
pub names_count : (rows : List (Option (List ℕ))) (names : List (List ℕ)) → names_of rows ≡ Ok names → length names ≡ length rows
names_count [] names is = let e : [] ≡ names = cc in rw (← e) refl
names_count (row ∷ rows) names is = go (name_of row) (names_of rows) refl (names_count rows) (sym (first_row row rows) ∙ is)
  where
    go : (first : Result (List ℕ) Status) (rest : Result (List (List ℕ)) Status) → names_of rows ≡ rest
        → ((others : List (List ℕ)) → names_of rows ≡ Ok others → length others ≡ length rows) → in_front first rest ≡ Ok names
        → length names ≡ suc (length rows)
    go (Ok name) (Ok others) read count same =
        let e : name ∷ others ≡ names = cc in rw (← e) (ap suc (count others read))
    go (Ok name) (Err cause) read count same = cc
    go (Err cause) (Ok others) read count same = cc
    go (Err cause) (Err other) read count same = cc

-- what a call promises by the names that it read, and by what is wrong with them
pub answered : (read : Result (List (List ℕ)) Status) (names : List (List ℕ)) (Answered : List (List ℕ) → Type 0) (IsRefused : Status → Type 0)
    → read ≡ Ok names → Answered names → With read Answered IsRefused
answered read names Answered IsRefused is h = rw is (inl h)

pub refused : (read : Result (List (List ℕ)) Status) (cause : Status) (Answered : List (List ℕ) → Type 0) (IsRefused : Status → Type 0)
    → (cause ≡ Refused OutOfMemory) ⊎ (read ≡ Err cause) → IsRefused cause → With read Answered IsRefused
refused read cause Answered IsRefused (inl memory) h = inr (rw (← memory) h)
refused read cause Answered IsRefused (inr is) h = rw is (inl h)

-- ---- one row

pub name_ok : (row : Option (List ℕ)) (bytes name : List ℕ) → row ≡ Some bytes → name ≡ bytes → IsUtf8 bytes → name_of row ≡ Ok name
name_ok row bytes name is same utf8 = rw (is, is_utf8-from_IsUtf8 bytes utf8) (ap Ok (sym same))

not_utf8 : (bytes : List ℕ) (b : Bool) → is_utf8 bytes ≡ b → ¬ (IsUtf8 bytes) → is_utf8 bytes ≡ false
not_utf8 bytes true is other = absurd (other (IsUtf8-from_is_utf8 bytes is))
not_utf8 bytes false is other = is

pub name_err : (row : Option (List ℕ)) (bytes : List ℕ) → row ≡ Some bytes → ¬ (IsUtf8 bytes) → name_of row ≡ Err NotUtf8
name_err row bytes is other = rw (is, not_utf8 bytes (is_utf8 bytes) refl other) refl

-- the name is put after the others
pub pushed_name : (old new : List (Bor (List ℕ))) (name : Bor (List ℕ)) → new ≡ old ++ name ∷ []
    → map (λ n. n.now) new ≡ map (λ n. n.now) old ++ name.now ∷ []
pushed_name old new name is = rw is (map-append (λ n. n.now) old (name ∷ []))
