-- Names that are looked up among strings, and what calls decided of strings that are joined.
use Rattle.jsonb_raw.proofs.Common.{◌∙◌, append-nil, replicate, length-replicate, All-replicate, cond, nat_cmp, slice_cmp, is_eq, is_eq-slice_cmp, list_any-append, list_all-append, key_trees, TextSet, is_in, ◌≡◌, ◌==◌, ◌||◌, ◌&&◌, ◌<◌, ◌≤◌, ◌+◌, ℕ, Bool, true, false, List, [], ◌∷◌, drop, length, get_or, Option, Some, None, Result, Ok, Err, refl, sym, ap, ap₂, true≢false, arith, Bor, bytes_eq, beq, list_any, All, bytes_eq-true, Error, Entries, StoredEntry, kind_number, Tree, text, array, Trees, no_trees, tree, elements, Form, HasEntriesLeft, Stores, GivesEntry, is_text, has_by, texts_of, is_one_of, decided_by, HasTextsLeft, TakesText, contents_of, IsNameAt, IsPlaced, AreSeen, first_place, slice_index_or, slice_set, ⊎_elim, cases_eq, eq-or-lt_of_le, ◌≢◌, length-set, get_or-map, get_or-set_other, get_or-set_at, bytes_eq-same, suc, zero, shuffled, ◌++◌, length-append, Any, text_content, FnReturnsAt, get_or_append_left, get_or-append-add, All-append, All-cons, Tells, texts, LargeTells, LeavesTexts, StandsFor, Item, add-one, drop-cons, subst}
use Rattle.jsonb_raw.proofs.EntriesLeft.{SomeEntries, SomeEntries-first, SomeEntries-error, SomeEntries-none}
use Rattle.std.proofs.Common.{eqb-true}
use Rattle.std.specs.Fn.{Shared}

-- ---- the strings among entries

module _ (form : Form) (e : StoredEntry) where
  no_text : (t : Tree) (ts : Trees) → Stores form e t → (kind_number e.kind == 1) ≡ false → texts_of (tree t ts) ≡ texts_of ts
  no_text t ts h k = grind arith

  one_text : (it : Entries) (t : Tree) (ts : Trees) → Stores form e t → (kind_number e.kind == 1) ≡ true → HasEntriesLeft form it ts
      → TakesText form (texts_of (tree t ts)) (Some e.content) it
  one_text it t ts h e k = grind arith

module _ (form : Form) (it it' : Entries) (ss : List (List ℕ)) (h : HasTextsLeft form it ss) where
  these : SomeEntries form it (λ ts. texts_of ts ≡ ss)
  these = record { trees = h.trees; left = h.left; fact = h.texts }

  module _ (r : Result StoredEntry Error) (x : StoredEntry) (e : r ≡ Ok x) (n : GivesEntry it (Some r) it') where
    -- an entry that is not a string is passed
    pub text_passed : (kind_number x.kind == 1) ≡ false → HasTextsLeft form it' ss
    text_passed h = grind (arith, SomeEntries-first, these, no_text)

    -- a string is the first of those that are left
    pub text_taken : (kind_number x.kind == 1) ≡ true → TakesText form ss (Some x.content) it'
    text_taken h = grind (arith, SomeEntries-first, these, one_text)

    -- the entry stores a tree
    pub some_stored : {G : Type 0} → ((t : Tree) → Stores form x t → G) → G
    some_stored h = grind (arith, SomeEntries-first, these)

  pub no_text_error : {G : Type 0} → (r : Result StoredEntry Error) (e : Error) → r ≡ Err e → GivesEntry it (Some r) it' → G
  no_text_error r e is n = SomeEntries-error form it it' r e (λ ts. texts_of ts ≡ ss) is n these

  pub text_none : (after : Entries) → GivesEntry it None it' → TakesText form ss None after
  text_none after n = grind (arith, SomeEntries-none, these)

-- ---- the strings that are left of a walk

pub record SomeTexts (form : Form) (it : Entries) (Q : List (List ℕ) → Type 0) : Type 0 where
  pub strings : List (List ℕ)
  pub left : HasTextsLeft form it strings
  pub fact : Q strings

module _ (form : Form) (it it' : Entries) (Q : List (List ℕ) → Type 0) (s : SomeTexts form it Q) (r : Option (Bor (List ℕ)))
    (takes : (ss : List (List ℕ)) → HasTextsLeft form it ss → TakesText form ss r it') where
  pub SomeTexts-first : {G : Type 0} → (x : Bor (List ℕ)) → r ≡ Some x
      → ((rest : List (List ℕ)) → HasTextsLeft form it' rest → Q (x.now ∷ rest) → G) → G
  SomeTexts-first x is go = grind (arith, rw is at (takes s.strings s.left), s.fact, go)

  pub SomeTexts-none : r ≡ None → Q []
  SomeTexts-none is = grind (arith, rw is at (takes s.strings s.left), s.fact)

-- ---- names

-- one of the names equals the string
abbrev pub names_have : List (List ℕ) → List ℕ → Bool
names_have names s = list_any (λ name. bytes_eq s name) names

pub one_string : (s : List ℕ) (ss names : List (List ℕ)) → list_any (is_one_of (s ∷ ss)) names ≡ (names_have names s || list_any (is_one_of ss) names)
one_string s ss [] = refl
one_string s ss (n ∷ names) = cc (one_string s ss names, shuffled (bytes_eq s n) (is_one_of ss n) (names_have names s) (list_any (is_one_of ss) names))

pub none_of_none : (names : List (List ℕ)) → list_any (is_one_of []) names ≡ false
none_of_none [] = refl
none_of_none (n ∷ names) = none_of_none names

pub name_among : (names : List (Bor (List ℕ))) (s : List ℕ) → names_have (contents_of names) s ≡ true → (at : ℕ) × IsNameAt names at s
name_among [] s h = absurd (true≢false (sym h))
name_among (n ∷ names) s h = by (bytes_eq s n.now) refl (name_among names s)
  where
    by : (b : Bool) → b ≡ bytes_eq s n.now → (names_have (contents_of names) s ≡ true → (at : ℕ) × IsNameAt names at s) → (at : ℕ) × IsNameAt (n ∷ names) at s
    by true e later = (0, (omega arith, sym (bytes_eq-true s n.now (sym e))))
    by false e later = let found = later (rw (sym e) at h) in (suc found.0, (omega (arith, found.1.0), found.1.1))

pub among_names : (names : List (Bor (List ℕ))) (at : ℕ) (s : List ℕ) → IsNameAt names at s → names_have (contents_of names) s ≡ true
among_names [] at s h = absurd (omega (arith, h.0))
among_names (n ∷ names) zero s h = rw h.1 (rw (bytes_eq-same s) refl)
among_names (n ∷ names) (suc at) s h = rw (among_names names at s (omega (arith, h.0), h.1)) (grind arith)

pub name_at : (names : List (Bor (List ℕ))) (at : ℕ) (d : Bor (List ℕ)) → at < length names → IsNameAt names at (get_or names at d).now
name_at names at d within = (within, get_or-map (λ (name : Bor (List ℕ)). name.now) names at d [] within)

pub name_read : (names : List (Bor (List ℕ))) (at : ℕ) (n : Bor (List ℕ)) → at < length names → n ≡ slice_index_or names at n → IsNameAt names at n.now
name_read names at n within e =
    (within, get_or-map (λ (name : Bor (List ℕ)). name.now) names at n [] within ∙ ap (λ (name : Bor (List ℕ)). name.now) (sym e))

module _ (names : List (Bor (List ℕ))) (places s : List ℕ) where
  pub not_free : (place : ℕ) (p : IsPlaced names places s) → first_place places s ≤ place → place ≤ p.place → slice_index_or places place 0 < length names
  not_free place p low high = ⊎_elim (λ e. rw e p.name.0) (λ less. p.before place low less) (eq-or-lt_of_le high)

  module _ (place at : ℕ) where
    place_other : length names ≤ slice_index_or places place 0 → (k : ℕ) → slice_index_or places k 0 < length names → k ≢ place
    place_other free k taken e = omega (arith, free, rw e at taken)

    pub place_kept : length names ≤ slice_index_or places place 0 → IsPlaced names places s → IsPlaced names (slice_set places place at) s
    place_kept free p = record {
      place = p.place;
      low = rw (length-set places place at) p.low;
      high = rw (length-set places place at) p.high;
      name = rw (get_or-set_other places place p.place at 0 (place_other free p.place p.name.0)) p.name;
      before = λ k low less.
          let old = p.before k (rw (length-set places place at) at low) less in
          rw (get_or-set_other places place k at 0 (place_other free k old)) old;
    }

    pub place_new : IsNameAt names at s → first_place places s ≤ place → place < first_place places s + 64 → place < length places
        → ((k : ℕ) → first_place places s ≤ k → k < place → slice_index_or places k 0 < length names) → IsPlaced names (slice_set places place at) s
    place_new name low high within before = record {
      place = place;
      low = rw (length-set places place at) low;
      high = rw (length-set places place at) high;
      name = rw (get_or-set_at places place place at 0 refl within) name;
      before = λ k after less.
          rw (get_or-set_other places place k at 0 (omega (arith, less))) (before k (rw (length-set places place at) at after) less);
    }

module _ (ss : List (List ℕ)) (names : List (Bor (List ℕ))) (seen : List Bool) (at : ℕ) (s : List ℕ) where
  pub seen_more : AreSeen ss names seen → IsNameAt names at s → is_one_of ss s ≡ true → AreSeen ss names (slice_set seen at true)
  seen_more h name one k other marked is = ⊎_elim
      (λ e. subst (λ t. is_one_of ss t ≡ true) (sym name.1 ∙ ap (λ i. slice_index_or (contents_of names) i []) (sym e) ∙ is.1) one)
      (λ ne. h k other (sym (get_or-set_other seen at k true false ne) ∙ marked) is) (cases_eq k at)

pub later_is_one : (s name : List ℕ) (ss : List (List ℕ)) → is_one_of ss name ≡ true → is_one_of (s ∷ ss) name ≡ true
later_is_one s name ss h = grind (arith, h)

-- ---- a name at a time

module _ (ss : List (List ℕ)) (name : List ℕ) (names : List (List ℕ)) (all : Bool) where
  -- a name that decides
  pub name_decides : (found has : Bool) → beq has found ≡ true → has ≡ is_one_of ss name → decided_by found ss (name ∷ names) ≡ all → found ≡ all
  name_decides found has h k e = grind arith

  -- a name that leaves it to the others
  pub name_leaves : (found has : Bool) → beq has found ≡ false → has ≡ is_one_of ss name → decided_by found ss (name ∷ names) ≡ all
      → decided_by found ss names ≡ all
  name_leaves found has h k e = grind arith

pub text_among : (name : List ℕ) (ts : Trees) → list_any (is_text name) (elements ts) ≡ is_one_of (texts_of ts) name
text_among name no_trees = refl
text_among name (tree (text s) ts) = ap (λ b. bytes_eq s name || b) (text_among name ts)
text_among name (tree _ ts) = text_among name ts

-- ---- the next of some names

next_by : (d : Bor (List ℕ)) (names : List (Bor (List ℕ))) (at : ℕ) → at < length names
    → contents_of (drop at names) ≡ slice_index_or (contents_of names) at [] ∷ contents_of (drop (at + 1) names)
next_by d names at few =
    rw (add-one, drop-cons names at d few) (ap (λ s. s ∷ contents_of (drop (suc at) names)) (sym (get_or-map (λ (name : Bor (List ℕ)). name.now) names at d [] few)))

pub next_left : (names : List (Bor (List ℕ))) (at : ℕ) → at < length names
    → IsNameAt names at (slice_index_or (contents_of names) at [])
    × (contents_of (drop at names) ≡ slice_index_or (contents_of names) at [] ∷ contents_of (drop (at + 1) names))
next_left [] at few = absurd (omega (arith, few))
next_left (n ∷ names) at few = ((few, refl), next_by n (n ∷ names) at few)

-- what some names decide of these and others
module _ (ss a b whole : List (List ℕ)) (found r : Bool) (told : r ≡ decided_by found ss a) (all : a ++ b ≡ whole) where
  pub names_told : beq r found ≡ true → r ≡ decided_by found ss whole
  names_told h = rw (sym all) (grind (arith, list_any-append, list_all-append))

  pub names_ended : b ≡ [] → r ≡ decided_by found ss whole
  names_ended h = told ∙ ap (decided_by found ss) (sym (append-nil a) ∙ ap (λ xs. a ++ xs) (sym h) ∙ all)

  pub names_open : beq r found ≡ false → decided_by found ss b ≡ decided_by found ss whole
  names_open h = rw (sym all) (grind (arith, list_any-append, list_all-append))

pub none_seen : (ss : List (List ℕ)) (names : List (Bor (List ℕ))) (seen : List Bool) → length names ≤ length seen → All (λ b. b ≡ false) seen
    → AreSeen ss names seen
none_seen ss names seen room none at name is h = absurd (true≢false (sym is ∙ none at false (omega (arith, h.0, room))))

pub none_seen_yet : (ss : List (List ℕ)) (names : List (Bor (List ℕ))) (n : ℕ) → length names ≤ n → AreSeen ss names (replicate n false)
none_seen_yet ss names n few = none_seen ss names (replicate n false) (omega (arith, few, length-replicate n false)) (All-replicate (λ b. b ≡ false) n false refl)

-- ---- strings in a set

moved : (a b r : Bool) → (cond b true a || r) ≡ (a || (b || r))
moved a b r = grind arith

-- a set with one string more
pub text_added : (old new : TextSet) (s : List ℕ) (rest : List (List ℕ)) (q : List ℕ) (whole : Bool)
    → is_in new q ≡ cond (is_eq (slice_cmp nat_cmp s q)) true (is_in old q) → (is_in old q || is_one_of (s ∷ rest) q) ≡ whole
    → (is_in new q || is_one_of rest q) ≡ whole
text_added old new s rest q whole added fact =
    rw (added ∙ ap (λ b. cond b true (is_in old q)) (is_eq-slice_cmp s q)) (moved (is_in old q) (bytes_eq s q) (is_one_of rest q) ∙ fact)

texts_of-keys : (ks : List (List ℕ)) → texts_of (key_trees ks) ≡ ks
texts_of-keys [] = refl
texts_of-keys (k ∷ ks) = ap (λ xs. k ∷ xs) (texts_of-keys ks)

-- the keys of an object are strings
pub keys_left : (form : Form) (it : Entries) (ks : List (List ℕ)) → HasEntriesLeft form it (key_trees ks) → HasTextsLeft form it ks
keys_left form it ks h = record { trees = key_trees ks; left = h; texts = texts_of-keys ks }

-- ---- some names, and others

-- the names by the strings of an array
pub array_decided : (found : Bool) (names : List (List ℕ)) (ts : Trees) → decided_by found (texts_of ts) names ≡ has_by found names (array ts)
array_decided true [] ts = refl
array_decided true (n ∷ names) ts = ap₂ (λ a b. a || b) (sym (text_among n ts)) (array_decided true names ts)
array_decided false [] ts = refl
array_decided false (n ∷ names) ts = ap₂ (λ a b. a && b) (sym (text_among n ts)) (array_decided false names ts)

module _ {X : Type 0} (P : X → Type 0) where
  any_in_first : (xs ys : List X) → Any P xs → Any P (xs ++ ys)
  any_in_first xs ys h = grind (arith, length-append, get_or_append_left)

  any_in_second : (xs ys : List X) → Any P ys → Any P (xs ++ ys)
  any_in_second xs ys h = search (arith, h, (h).1, length-append xs ys, get_or-append-add xs ys (h).0 (h).1, (h).3, (h).4)

  any_head : (x : X) (xs : List X) → P x → Any P (x ∷ xs)
  any_head x xs p = (0, x, omega arith, refl, p)

-- The strings that are left, and those that were not asked about, decide what all determine.
pub record Leaves {F : Type 0} (calls : Shared F (Bor (List ℕ) × Unit {0}) Bool) (func : F) (form : Form) (all left : List (List ℕ))
    (large : Option Item) : Type 0 where
  pub found : Tells calls func left true → Tells calls func all true
  pub rest : Tells calls func left false → LargeTells calls func form all large

module _ {F : Type 0} (calls : Shared F (Bor (List ℕ) × Unit {0}) Bool) (func : F) where
  abbrev Answered : Bool → List ℕ → Type 0
  Answered answer s = FnReturnsAt calls func s answer

  pub told_none : Tells calls func [] false
  told_none k d below = absurd (omega (arith, below))

  pub told_alone : (x : List ℕ) (answer : Bool) → FnReturnsAt calls func x answer → Tells calls func (x ∷ []) answer
  told_alone x answer h = grind (arith, any_head, All-cons, told_none)

  pub told_first : (xs ys : List (List ℕ)) → Tells calls func xs true → Tells calls func (xs ++ ys) true
  told_first xs ys h = any_in_first (Answered true) xs ys h

  -- each call on the first of them returned false, so the others decide
  pub told_then : (xs ys : List (List ℕ)) → Tells calls func xs false → (answer : Bool) → Tells calls func ys answer → Tells calls func (xs ++ ys) answer
  told_then xs ys h true k = any_in_second (Answered true) xs ys k
  told_then xs ys h false k = All-append (Answered false) xs ys h k

  pub told_second : (xs ys : List (List ℕ)) → Tells calls func ys true → Tells calls func (xs ++ ys) true
  told_second xs ys h = any_in_second (Answered true) xs ys h

  pub told_head : (x : List ℕ) (xs : List (List ℕ)) → FnReturnsAt calls func x true → Tells calls func (x ∷ xs) true
  told_head x xs h = any_head (Answered true) x xs h

  pub told_after : (x : List ℕ) (xs : List (List ℕ)) → FnReturnsAt calls func x false → (answer : Bool) → Tells calls func xs answer
      → Tells calls func (x ∷ xs) answer
  told_after x xs h true k = any_in_second (Answered true) (x ∷ []) xs k
  told_after x xs h false k = All-cons (Answered false) x xs h k

  module _ (form : Form) (all : List (List ℕ)) where
    pub leaves_all : Leaves calls func form all all None
    leaves_all = record { found = λ h. h; rest = λ h. h }

    -- each call on the first of them returned false
    pub leaves_after : (large : Option Item) (xs ys : List (List ℕ)) → Tells calls func xs false → Leaves calls func form all (xs ++ ys) large
        → Leaves calls func form all ys large
    leaves_after large xs ys none l = record { found = λ h. l.found (told_then xs ys none true h); rest = λ h. l.rest (told_then xs ys none false h) }

    -- the first of them are put off
    pub leaves_aside : (item : Item) (t : Tree) (ys : List (List ℕ)) → StandsFor form item t → Leaves calls func form all (texts t ++ ys) None
        → Leaves calls func form all ys (Some item)
    leaves_aside item t ys stands l = record { found = λ h. l.found (told_second (texts t) ys h); rest = λ h. (t, stands, decides h) }
      where
        decides : Tells calls func ys false → (b : Bool) → Tells calls func (texts t) b → Tells calls func all b
        decides h true k = l.found (told_first (texts t) ys k)
        decides h false k = l.rest (told_then (texts t) ys k false h)

    pub leaves_told : (ss : List (List ℕ)) (answer : Bool) → Tells calls func ss answer → LeavesTexts calls func form ss answer None
    leaves_told ss answer h = grind arith

module _ (form : Form) (e : StoredEntry) where
  -- an entry of that kind is the text of its bytes
  pub text_stored : (t : Tree) → Stores form e t → (kind_number e.kind == 1) ≡ true → texts t ≡ e.content.now ∷ []
  text_stored t h e = grind (arith, eqb-true, text_content)
