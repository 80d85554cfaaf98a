-- Objects of rows: what is put in so far, and which limits it is within.
use Rattle.std.proofs.Common.{◌≡◌, ◌⊎◌, inl, inr, ◌+◌, ◌<◌, ◌≤◌, ℕ, zero, suc, Bool, true, false, not, IsTrue, List, [], ◌∷◌, drop, map, length, get_or, Option, Some, Result, Ok, Err, MatchResult, Ordering, Less, Equal, Greater, refl, sym, ap, ◌∙◌, add-one, arith, cond, ◌↔◌, Vec}
use Rattle.std.specs.Prelude.{⊤, ◌^◌, IsErrOf, slice_get}
use Rattle.std.specs.Borrow.{Bor}
use Rattle.std.specs.List.{zip, AllZip}
use Rattle.std.specs.declared.alloc.Global.{Global}
use Rattle.std.specs.Ordering.{nat_cmp, match_ordering}
use Rattle.std.specs.Cmp.Lexicographic.{slice_cmp}
use Rattle.jsonb_doc.specs.declared.error.Error.{Error}
use Rattle.jsonb_doc.specs.declared.error.Error.TheVariants.{ObjectDuplicateKey, TooLarge}
use Rattle.jsonb_doc.specs.Tree.{Tree, null, object, pairs_of, keys}
use Rattle.jsonb_doc.specs.Format.{Decodes}
use Rattle.jsonb_doc.specs.Payload.{Form}
use Rattle.jsonb_doc.specs.Limits.{IsShort, HasShortParts, AreShortKeys, HasShortValues, IsWithinLimits, IsTooLarge}
use Rattle.jsonb_doc.specs.Answer.{IsOutOfMemory, ◌or◌when◌}
use Rattle.jsonb_doc.specs.Private.Errors.{IsOutOfMemoryOrTooLarge}
use Rattle.jsonb_doc.specs.Encoding.{EntryParts}
use Rattle.jsonb_doc.specs.ObjectBuilder.{HoldsPairs, has_key, insert_pair}
use Rattle.jsonb_doc.proofs.ObjectLemmas.{held_key, length-inserted}
use Rattle.jsonb_c.specs.Making.{IsObjectOf, IsRowOf, put_rows}
use Rattle.jsonb_c.specs.Private.Views.{vec_answer}
use Rattle.jsonb_c.proofs.MakingLemmas.{row_decodes}

-- ---- limits

-- each pair has its place in a document of this form
abbrev pub AreShort : Form → List (List ℕ × Tree) → Type 0
AreShort form [] = ⊤
AreShort form (p ∷ ps) = ((length p.0 < 2 ^ 28) × (IsShort form p.1 × HasShortParts form p.1)) × AreShort form ps

short_within : (form : Form) (ps : List (List ℕ × Tree)) → AreShortKeys (keys (pairs_of ps)) → HasShortValues form (pairs_of ps) → AreShort form ps
short_within form [] ks vs = tt
short_within form (p ∷ ps) ks vs = ((ks.0, (vs.0, vs.1)), short_within form ps ks.1 vs.2)

keys_within : (form : Form) (ps : List (List ℕ × Tree)) → AreShort form ps → AreShortKeys (keys (pairs_of ps))
keys_within form [] h = tt
keys_within form (p ∷ ps) h = (h.0.0, keys_within form ps h.1)

values_within : (form : Form) (ps : List (List ℕ × Tree)) → AreShort form ps → HasShortValues form (pairs_of ps)
values_within form [] h = tt
values_within form (p ∷ ps) h = (h.0.1.0, h.0.1.1, values_within form ps h.1)

count_keys : (ps : List (List ℕ × Tree)) → length (keys (pairs_of ps)) ≡ length ps
count_keys [] = refl
count_keys (p ∷ ps) = ap suc (count_keys ps)

within_limits : (form : Form) (ps : List (List ℕ × Tree)) → length ps < 2 ^ 29 → AreShort form ps → IsWithinLimits form (object (pairs_of ps))
within_limits form ps few h = let e = count_keys ps in (omega (arith, e, few), keys_within form ps h, values_within form ps h)

few_within : (form : Form) (ps : List (List ℕ × Tree)) → IsWithinLimits form (object (pairs_of ps)) → length ps < 2 ^ 29
few_within form ps h = let e = count_keys ps in omega (arith, e, h.0)

all_within : (form : Form) (ps : List (List ℕ × Tree)) → IsWithinLimits form (object (pairs_of ps)) → AreShort form ps
all_within form ps h = short_within form ps h.1 h.2

short_inserted : (form : Form) (key : List ℕ) (t : Tree) (ps : List (List ℕ × Tree))
    → (length key < 2 ^ 28) × (IsShort form t × HasShortParts form t) → AreShort form ps → AreShort form (insert_pair key t ps)
short_inserted form key t [] new h = (new, tt)
short_inserted form key t (p ∷ ps) new h = go (slice_cmp nat_cmp key p.0) (short_inserted form key t ps new h.1)
  where
    go : (o : Ordering) → AreShort form (insert_pair key t ps)
        → AreShort form (match_ordering o ((key, t) ∷ p ∷ ps) ((p.0, t) ∷ ps) (p ∷ insert_pair key t ps))
    go Less rest = (new, h)
    go Equal rest = ((h.0.0, new.1), h.1)
    go Greater rest = (h.0, rest)

short_at : (form : Form) (rows others : List (List ℕ × Tree)) (i : ℕ) (key : List ℕ) (t : Tree) → drop i rows ≡ (key, t) ∷ others → AreShort form rows
    → (length key < 2 ^ 28) × (IsShort form t × HasShortParts form t)
short_at form [] others zero key t at h = cc
short_at form [] others (suc i) key t at h = cc
short_at form (p ∷ rows) others zero key t at h = let e : p ≡ (key, t) = cc in rw e at h.0
short_at form (p ∷ rows) others (suc i) key t at h = short_at form rows others i key t at h.1

longer : {A : Type 0} (xs ys : List A) (x : A) (i : ℕ) → drop i xs ≡ x ∷ ys → i + 1 ≤ length xs
longer [] ys x zero at = cc
longer [] ys x (suc i) at = cc
longer (y ∷ xs) ys x zero at = omega arith
longer (y ∷ xs) ys x (suc i) at = let e = longer xs ys x i at in omega (arith, e)

-- ---- rows

-- the first rows are put in, and with the others it is as if all were put in at once
pub record PutSoFar (form : Form) (es : List (List ℕ × EntryParts)) (i : ℕ) (rows : List (List ℕ × Tree)) : Type 0 where
  pub held : List (List ℕ × Tree)
  pub holds : HoldsPairs form es held
  pub count : length held ≡ i
  pub left : put_rows held (drop i rows) ≡ put_rows [] rows
  pub short : IsWithinLimits form (object (pairs_of rows)) → AreShort form held

pub none_put : (form : Form) (es : List (List ℕ × EntryParts)) (rows : List (List ℕ × Tree)) → es ≡ [] → PutSoFar form es 0 rows
none_put form es rows is = record { held = []; holds = rw is tt; count = refl; left = refl; short = λ h. tt }

-- what a push of the next row returns
abbrev pub PutStep : Form → List (List ℕ × EntryParts) → ℕ → List (List ℕ × Tree) → Result (Unit {0}) Error → Type 0
PutStep form after i rows r = MatchResult r (λ _. PutSoFar form after (i + 1) rows)
    (λ e. (IsOutOfMemory or TooLarge when IsTooLarge form (object (pairs_of rows))) e ⊎ (put_rows [] rows ≡ Err e))

module _ (form : Form) (before after : List (List ℕ × EntryParts)) (i : ℕ) (rows others : List (List ℕ × Tree)) (key : List ℕ) (t : Tree)
    (at : drop i rows ≡ (key, t) ∷ others) (next : drop (i + 1) rows ≡ others) (so_far : PutSoFar form before i rows) where
  opened : (if_new : put_rows so_far.held ((key, t) ∷ others) ≡ put_rows [] rows)
      → (b : Bool) → has_key key so_far.held ≡ b
      → cond b (Err ObjectDuplicateKey) (put_rows (insert_pair key t so_far.held) others) ≡ put_rows [] rows
  opened whole b is = rw is at whole

  there : has_key key so_far.held ≡ true → put_rows [] rows ≡ Err ObjectDuplicateKey
  there is = sym (opened (rw at at so_far.left) true is)

  added : has_key key so_far.held ≡ false → HoldsPairs form after (insert_pair key t so_far.held) → PutSoFar form after (i + 1) rows
  added fresh holds = record {
    held = insert_pair key t so_far.held;
    holds = holds;
    count = let e = length-inserted key t so_far.held fresh in omega (arith, e, so_far.count);
    left = rw next (opened (rw at at so_far.left) false fresh);
    short = λ within. short_inserted form key t so_far.held (short_at form rows others i key t at (all_within form rows within)) (so_far.short within);
  }

  too_large : has_key key so_far.held ≡ false → IsTooLarge form (object (pairs_of (insert_pair key t so_far.held))) → IsTooLarge form (object (pairs_of rows))
  too_large fresh large = λ within.
      let count = length-inserted key t so_far.held fresh in
      let more = longer rows others (key, t) i at in
      let few = few_within form rows within in
      large (within_limits form (insert_pair key t so_far.held) (omega (arith, count, more, few, so_far.count))
      (short_inserted form key t so_far.held (short_at form rows others i key t at (all_within form rows within)) (so_far.short within)))

  fresh_is : (b : Bool) → has_key key before ≡ b → has_key key so_far.held ≡ b
  fresh_is b is = sym (held_key form key before so_far.held so_far.holds) ∙ is

  pub put_step : (r : Result (Unit {0}) Error) → IsErrOf r ObjectDuplicateKey ↔ IsTrue (has_key key before)
      → ((ps : List (List ℕ × Tree)) → HoldsPairs form before ps → IsTrue (not (has_key key before))
      → MatchResult r (λ _. HoldsPairs form after (insert_pair key t ps)) (IsOutOfMemoryOrTooLarge form (object (pairs_of (insert_pair key t ps)))))
      → PutStep form after i rows r
  put_step r repeated pushed = go (has_key key before) refl
    where
      finish : has_key key so_far.held ≡ false → (answer : Result (Unit {0}) Error)
          → MatchResult answer (λ _. HoldsPairs form after (insert_pair key t so_far.held))
          (IsOutOfMemoryOrTooLarge form (object (pairs_of (insert_pair key t so_far.held))))
          → PutStep form after i rows answer
      finish fresh (Ok x) h = added fresh h
      finish fresh (Err e) (inl memory) = inl (inl memory)
      finish fresh (Err e) (inr (is, large)) = inl (inr (is, too_large fresh large))

      go : (b : Bool) → has_key key before ≡ b → PutStep form after i rows r
      go true is = rw (repeated.1 is) (inr (there (fresh_is true is)))
      go false is = finish (fresh_is false is) r (pushed so_far.held so_far.holds (rw is refl))

-- at last all rows are put in
pub all_put : (form : Form) (es : List (List ℕ × EntryParts)) (i : ℕ) (rows : List (List ℕ × Tree)) → drop i rows ≡ []
    → PutSoFar form es i rows → (ps : List (List ℕ × Tree)) × HoldsPairs form es ps × (put_rows [] rows ≡ Ok ps)
all_put form es i rows none so_far = (so_far.held, so_far.holds, sym so_far.left ∙ rw none refl)

-- ---- names next to documents

abbrev pub texts : List (Bor (List ℕ)) → List (List ℕ)
texts names = map (λ name. name.now) names

rows_at_suc : (names : List (Bor (List ℕ))) (ts : List Tree) (i : ℕ) (d : Bor (List ℕ)) → i < length names → i < length ts
    → drop i (zip (texts names) ts) ≡ ((get_or names i d).now, get_or ts i null) ∷ drop (suc i) (zip (texts names) ts)
rows_at_suc (name ∷ names) (t ∷ ts) zero d lt lt_ts = refl
rows_at_suc (name ∷ names) (t ∷ ts) (suc i) d lt lt_ts = rows_at_suc names ts i d (omega arith) (omega arith)
rows_at_suc [] ts i d lt lt_ts = absurd (omega arith)
rows_at_suc (name ∷ names) [] i d lt lt_ts = absurd (omega arith)

rows_at : (names : List (Bor (List ℕ))) (ts : List Tree) (i : ℕ) (d : Bor (List ℕ)) → i < length names → i < length ts
    → drop i (zip (texts names) ts) ≡ ((get_or names i d).now, get_or ts i null) ∷ drop (i + 1) (zip (texts names) ts)
rows_at names ts i d lt lt_ts = rw add-one (rows_at_suc names ts i d lt lt_ts)

rows_end : (names : List (Bor (List ℕ))) (ts : List Tree) (i : ℕ) → length names ≤ i → drop i (zip (texts names) ts) ≡ []
rows_end [] ts zero le = refl
rows_end [] ts (suc i) le = refl
rows_end (name ∷ names) [] zero le = refl
rows_end (name ∷ names) [] (suc i) le = refl
rows_end (name ∷ names) (t ∷ ts) zero le = absurd (omega arith)
rows_end (name ∷ names) (t ∷ ts) (suc i) le = rows_end names ts i (omega arith)

-- the result of pushing the next name with the document in its row
pub put_row : (form : Form) (before after : List (List ℕ × EntryParts)) (i : ℕ) (names : List (Bor (List ℕ))) (d : Bor (List ℕ))
    (column : List (Option (List ℕ))) (ts : List Tree) (document : List ℕ) (r : Result (Unit {0}) Error)
    → AllZip (IsRowOf form) column ts → slice_get column i ≡ Some (Some document) → i < length names
    → PutSoFar form before i (zip (texts names) ts)
    → ((t : Tree) → Decodes form document t → IsErrOf r ObjectDuplicateKey ↔ IsTrue (has_key (get_or names i d).now before))
    → ((ps : List (List ℕ × Tree)) (t : Tree) → HoldsPairs form before ps → Decodes form document t → IsTrue (not (has_key (get_or names i d).now before))
    → MatchResult r (λ _. HoldsPairs form after (insert_pair (get_or names i d).now t ps))
    (IsOutOfMemoryOrTooLarge form (object (pairs_of (insert_pair (get_or names i d).now t ps)))))
    → PutStep form after i (zip (texts names) ts) r
put_row form before after i names d column ts document r related at lt so_far repeated pushed =
    let row = row_decodes form column ts i document related at in
    put_step form before after i (zip (texts names) ts) (drop (i + 1) (zip (texts names) ts)) (get_or names i d).now (get_or ts i null)
    (rows_at names ts i d lt row.0) refl so_far r (repeated (get_or ts i null) row.1) (λ ps holds free. pushed ps (get_or ts i null) holds row.1 free)

pub put_refused : (form : Form) (after : List (List ℕ × EntryParts)) (i : ℕ) (rows : List (List ℕ × Tree)) (e : Error) → PutStep form after i rows (Err e)
    → IsObjectOf form rows (Err e)
put_refused form after i rows e h = record { ok = tt; err = h }

pub object_built : (form : Form) (es : List (List ℕ × EntryParts)) (i : ℕ) (names : List (Bor (List ℕ))) (ts : List Tree) (r : Result (Vec ℕ Global) Error)
    → length names ≤ i → PutSoFar form es i (zip (texts names) ts)
    → ((ps : List (List ℕ × Tree)) → HoldsPairs form es ps → MatchResult r (λ v. Decodes form v.items (object (pairs_of ps))) IsOutOfMemory)
    → IsObjectOf form (zip (texts names) ts) (vec_answer r)
object_built form es i names ts r done so_far built =
    let all = all_put form es i (zip (texts names) ts) (rows_end names ts i done) so_far in
    go r all.0 all.2 (built all.0 all.1)
  where
    go : (answer : Result (Vec ℕ Global) Error) (ps : List (List ℕ × Tree)) → put_rows [] (zip (texts names) ts) ≡ Ok ps
        → MatchResult answer (λ v. Decodes form v.items (object (pairs_of ps))) IsOutOfMemory → IsObjectOf form (zip (texts names) ts) (vec_answer answer)
    go (Ok v) ps is h = record { ok = rw is h; err = tt }
    go (Err e) ps is h = record { ok = tt; err = inl (inl h) }
