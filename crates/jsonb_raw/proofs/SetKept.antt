-- What the loops of the set functions keep true.
use Rattle.jsonb_raw.proofs.Common.{ℕ, zero, suc, drop, ap₂, not, ◌≡◌, ◌+◌, ◌<◌, ◌^◌, Bool, true, false, ◌||◌, cond, List, [], ◌∷◌, ◌++◌, length, map, filter, Option, Some, None, refl, sym, ap, subst, ◌∙◌, append_assoc, append-nil, arith, nat_tests, AllByRecursion, list_any, Tree, array, Trees, no_trees, tree, elements, trees_of, Form, canonical, kind_number, StoredEntry, Fits, AreInRange, HasShortElements, IsOutOfMemoryOrTooLarge, Parts, no_parts, HoldsElements, Error, array_too_large-more, as_elements, is_equal, is_equal_equiv, sum_by-cons, occurrences, overlap, intersection_of, difference_of, keeps, kept_one, CountsAfter, HaveSeen, HoldTrees, HasEntriesLeft, trees_of-elements, AreElementsOf, RunsHold, IsFirst, TakesFirst, Holding, Entries, KeyCounts, Seen, SetOperation, or_false}
use Rattle.jsonb_raw.proofs.RunLemmas.{holding_begun, holding_kept, holding_again, entry_taken}
use Rattle.jsonb_raw.proofs.ObjectLemmas.{length-elements}

-- ---- the elements of a document

fit_elements : (ts : Trees) → AreInRange ts → HasShortElements canonical ts → AllByRecursion Fits (elements ts)
fit_elements no_trees range short = tt
fit_elements (tree t ts) range short = ((range.0, grind (arith, short.0, short.1)), fit_elements ts range.1 short.2)

-- the elements of an array that fits do, and there are not too many
pub elements_fit : (ts : Trees) → Fits (array ts) → AllByRecursion Fits (elements ts)
elements_fit ts f = fit_elements ts f.0 f.1.1

pub elements_few : (ts : Trees) → Fits (array ts) → length (elements ts) < 2 ^ 63
elements_few ts f = omega (arith, f.1.0, length-elements ts)

pub all_dropped : {X : Type 0} (P : X → Type 0) (n : ℕ) (xs : List X) → AllByRecursion P xs → AllByRecursion P (drop n xs)
all_dropped P zero xs h = h
all_dropped P (suc n) [] h = h
all_dropped P (suc n) (x ∷ xs) h = all_dropped P n xs h.1

pub members_fit : (t : Tree) → Fits t → AllByRecursion Fits (as_elements t)
members_fit t h = grind (arith, elements_fit)

-- the entries of the elements of an array are those that it has
pub left_of_array : (form : Form) (found : Entries) (ts : Trees) → HoldTrees form found (elements ts) → HasEntriesLeft form found ts
left_of_array form found ts h = record { entries = rw trees_of-elements at h.entries }

-- a tree without entries of an array counts as one element
pub no_array_entries : (form : Form) (t : Tree) (found : Option Entries) → found ≡ None → AreElementsOf form t found → as_elements t ≡ t ∷ []
no_array_entries form t found h e = grind arith

-- one tree overlaps those that it is among
pub overlap_one : (ts : List Tree) (u : Tree) → overlap ts (u ∷ []) ≡ list_any (is_equal u) ts
overlap_one [] u = refl
overlap_one (t ∷ ts) u = ap₂ (λ a b. a || b) (or_false (is_equal t u) ∙ is_equal_equiv.symm t u) (overlap_one ts u)

-- ---- two lists of one element

-- a test for equality decides whether it is in the intersection
pub shared_one : (t u : Tree) (b : Bool) → b ≡ is_equal u t → cond b (t ∷ []) [] ≡ intersection_of (t ∷ []) (u ∷ [])
shared_one t u b e = grind (arith, nat_tests, (sum_by-cons (λ x. cond (is_equal x t) 1 0) u [] ∙ ap (λ x. cond x 1 0 + 0) (sym e)))

-- and in the difference
pub unshared_one : (t u : Tree) (b : Bool) → b ≡ is_equal u t → cond (not b) (t ∷ []) [] ≡ difference_of (t ∷ []) (u ∷ [])
unshared_one t u b e = grind (arith, nat_tests, (sum_by-cons (λ x. cond (is_equal x t) 1 0) u [] ∙ ap (λ x. cond x 1 0 + 0) (sym e)))

-- ---- what is kept

-- The elements of `left` that are kept, after the elements `before`.
abbrev pub kept_behind : SetOperation → List Tree → List Tree → List Tree → List Tree
kept_behind kind other before left = map (λ o. o.1) (filter (keeps kind other) (occurrences before left))

-- What is held, followed by what is kept of the elements that are left, is the whole.
pub record KeptLeft (form : Form) (kind : SetOperation) (m : KeyCounts) (other : List Tree) (parts : Parts) (left whole : List Tree) : Type 0 where
  pub before : List Tree
  pub held : List Tree
  pub few : length before + length left < 2 ^ 63
  pub fit : AllByRecursion Fits left
  pub behind : CountsAfter kind m other before
  pub holds : HoldsElements form parts held
  pub joined : held ++ kept_behind kind other before left ≡ whole

pub KeptLeft-all : (form : Form) (kind : SetOperation) (m : KeyCounts) (other : List Tree) (parts : Parts) (ts : List Tree) → parts ≡ no_parts → length ts < 2 ^ 63
    → AllByRecursion Fits ts → CountsAfter kind m other []
    → KeptLeft form kind m other parts ts (kept_behind kind other [] ts)
KeptLeft-all form kind m other parts ts h e k f = grind arith

pub KeptLeft-done : (form : Form) (kind : SetOperation) (m : KeyCounts) (other : List Tree) (parts : Parts) (whole : List Tree)
    → KeptLeft form kind m other parts [] whole → HoldsElements form parts whole
KeptLeft-done form kind m other parts whole h = subst (HoldsElements form parts) (sym (append-nil h.held) ∙ h.joined) h.holds

module _ (form : Form) (kind : SetOperation) (m : KeyCounts) (other : List Tree) (parts : Parts) (first : Tree) (rest whole : List Tree)
    (h : KeptLeft form kind m other parts (first ∷ rest) whole) where
  joined_next : (h.held ++ kept_one kind other (h.before, first)) ++ kept_behind kind other (first ∷ h.before) rest ≡ whole
  joined_next = grind (arith, append_assoc)

  pub few_before : length h.before < 2 ^ 63
  few_before = let few : length h.before + length (first ∷ rest) < 2 ^ 63 = h.few in omega arith

  pub KeptLeft-next : (n : KeyCounts) (after : Parts) → CountsAfter kind n other (first ∷ h.before)
      → HoldsElements form after (h.held ++ kept_one kind other (h.before, first)) → KeptLeft form kind n other after rest whole
  KeptLeft-next n after behind holds = grind (arith, joined_next)

  pub KeptLeft-refused : (e : Error) → IsOutOfMemoryOrTooLarge form (array (trees_of (h.held ++ kept_one kind other (h.before, first)))) e
      → IsOutOfMemoryOrTooLarge form (array (trees_of whole)) e
  KeptLeft-refused e h = search (arith, joined_next, array_too_large-more)

-- ---- what is kept, in runs

kept_in : (kind : SetOperation) (other before : List Tree) (t : Tree) (left : List Tree) → keeps kind other (before, t) ≡ true
    → kept_behind kind other before (t ∷ left) ≡ t ∷ kept_behind kind other (t ∷ before) left
kept_in kind other before t left is = rw is refl

-- The runs, and the run that is open, hold what is kept so far; followed by what is kept of the elements that are left,
-- it is the whole.
pub record KeptRuns (form : Form) (kind : SetOperation) (seen : Seen) (other : List Tree) (runs : List Entries) (run left : Entries)
    (whole : List Tree) : Type 0 where
  pub before : List Tree
  pub held : List Tree
  pub rest : List Tree
  pub behind : HaveSeen form kind seen other before rest
  pub holds : Holding form runs run left held rest
  pub joined : held ++ kept_behind kind other before rest ≡ whole

pub KeptRuns-all : (form : Form) (kind : SetOperation) (seen : Seen) (other : List Tree) (runs : List Entries) (entries : Entries) (ts : List Tree) → runs ≡ []
    → HoldTrees form entries ts → HaveSeen form kind seen other [] ts
    → KeptRuns form kind seen other runs entries entries (kept_behind kind other [] ts)
KeptRuns-all form kind seen other runs entries ts is h behind = search (arith, ts, behind, is, holding_begun form entries ts h)

module _ (form : Form) (kind : SetOperation) (seen : Seen) (other : List Tree) (runs : List Entries) (run left : Entries) (whole : List Tree)
    (h : KeptRuns form kind seen other runs run left whole) where
  pub KeptRuns-left : HoldTrees form left h.rest
  KeptRuns-left = h.holds.left_hold

module _ (form : Form) (kind : SetOperation) (seen : Seen) (other : List Tree) (runs : List Entries) (run left : Entries) (whole : List Tree)
    (h : KeptRuns form kind seen other runs run left whole) (entry : StoredEntry) (after_it : Entries)
    (mine : TakesFirst form left h.rest (Some (entry, after_it))) where
  -- the element that is next
  pub record Next : Type 0 where
    pub t : Tree
    pub ts : List Tree
    pub first_is : IsFirst form left t ts (kind_number entry.kind) entry.content.now after_it
    pub opened : Holding form runs run left h.held (t ∷ ts)
    pub behind : HaveSeen form kind seen other h.before (t ∷ ts)
    pub whole_is : h.held ++ kept_behind kind other h.before (t ∷ ts) ≡ whole

  pub next_of : Next
  next_of = grind (arith, entry_taken)

  pub KeptRuns-kept : (n : Next) (after : Seen) → keeps kind other (h.before, n.t) ≡ true → HaveSeen form kind after other (n.t ∷ h.before) n.ts
      → KeptRuns form kind after other runs run after_it whole
  KeptRuns-kept n after is behind = record {
    before = n.t ∷ h.before;
    held = h.held ++ n.t ∷ [];
    rest = n.ts;
    behind = behind;
    holds = holding_kept form runs run left after_it h.held n.ts n.t (kind_number entry.kind) entry.content.now n.opened n.first_is;
    joined = cc (append_assoc h.held (n.t ∷ []) (kept_behind kind other (n.t ∷ h.before) n.ts), kept_in kind other h.before n.t n.ts is);
  }

  pub KeptRuns-dropped : (n : Next) (after : Seen) (runs' : List Entries) → RunsHold form runs' h.held → keeps kind other (h.before, n.t) ≡ false
      → HaveSeen form kind after other (n.t ∷ h.before) n.ts → KeptRuns form kind after other runs' after_it after_it whole
  KeptRuns-dropped n after runs' h e k = grind (arith, holding_again)
