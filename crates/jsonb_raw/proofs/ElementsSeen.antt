-- How the counts of equality keys change, and what a count says of equal elements.
use Rattle.jsonb_raw.proofs.Common.{◌≡◌, ◌+◌, ◌-◌, ◌<◌, ◌≤◌, ◌^◌, ℕ, Bool, true, false, not, List, [], ◌∷◌, refl, sym, ap, ap₂, ◌∙◌, cond, Vec, arith, length, Some, unwrap_or, nat_lt, nat_eq, suc, min, take, Result, MatchResult, bytes_eq, nat_cmp, AllByRecursion, slice_cmp, is_eq-slice_cmp, bytes_eq-Decides, count_by-le-length, sum_by-cons, Tree, Fits, is_equal, equality_key, count_of, is_shared, key_cmp, counted, one_at, with_key, CountsKeys, keeps, CountsAfter, in_order, ArePassed, KeyCounts, SetOperation, First, Shared, Unshared, nat_tests, same_test, list_any, is_equal_equiv, Form, IsOutOfMemory, Error, Entries, as_elements, HoldTrees, ElementsPassed, Global}
use Rattle.std.specs.BTreeMap as map
use Rattle.jsonb_raw.proofs.KeyLawProofs.{equality_keys_tell_apart}
use Rattle.jsonb_raw.proofs.SetKept.{elements_few}
use Rattle.jsonb_raw.proofs.SetLawProofs.{count-cons}
use Rattle.jsonb_raw.proofs.EntriesLeft.{take_one}

-- ---- the map

pub inserted : (m n : KeyCounts) (key : Vec ℕ Global) (w : ℕ) → map.Updates key_cmp m.counts n.counts key (Some w) → (q : Vec ℕ Global)
    → counted n q ≡ cond (bytes_eq key.items q.items) w (counted m q)
inserted m n key w u q = grind (arith, is_eq-slice_cmp)

-- keys of the same bytes have one count
pub same_count : (m : KeyCounts) (key q : Vec ℕ Global) → key.items ≡ q.items → counted m key ≡ counted m q
same_count m key q e = ap (λ k. unwrap_or (map.get_by (λ (v : Vec ℕ Global). slice_cmp nat_cmp k v.items) m.counts) 0) e

same_if : (m : KeyCounts) (key q : Vec ℕ Global) → bytes_eq key.items q.items ≡ true → counted m key ≡ counted m q
same_if m key q h = same_count m key q ((bytes_eq-Decides key.items q.items).0 h)

pub counted_more : (m n : KeyCounts) (key : Vec ℕ Global) (w : ℕ) → map.Updates key_cmp m.counts n.counts key (Some w) → w ≡ counted m key + 1
    → (q : Vec ℕ Global) → counted n q ≡ counted m q + one_at key.items q
counted_more m n key w u e q = grind (arith, inserted m n key w u q, same_if m key q, e)

pub counted_less : (m n : KeyCounts) (key : Vec ℕ Global) (w : ℕ) → map.Updates key_cmp m.counts n.counts key (Some w) → w ≡ counted m key - 1
    → (q : Vec ℕ Global) → counted n q ≡ counted m q - one_at key.items q
counted_less m n key w u e q = grind (arith, inserted m n key w u q, same_if m key q, e)

-- a new key, whose copy the map has
pub counted_new : (m n : KeyCounts) (key copy : Vec ℕ Global) → copy.items ≡ key.items → map.Updates key_cmp m.counts n.counts copy (Some 1) → counted m key ≡ 0
    → (q : Vec ℕ Global) → counted n q ≡ counted m q + one_at key.items q
counted_new m n key copy h e k q = grind (arith, same_count, counted_more)

-- a key that was counted before, whose copy was inserted with the count 1, and is then set
pub counted_again : (m n o : KeyCounts) (key copy : Vec ℕ Global) (before w : ℕ) → copy.items ≡ key.items
    → map.Updates key_cmp m.counts n.counts copy (Some 1) → Some before ≡ map.get key_cmp m.counts copy → w ≡ before + 1
    → (0 < counted n key → (q : Vec ℕ Global) → counted o q ≡ cond (bytes_eq key.items q.items) w (counted n q))
    → (q : Vec ℕ Global) → counted o q ≡ counted m q + one_at key.items q
counted_again m n o key copy before w same u had is set q = set some q ∙ by (bytes_eq key.items q.items) (bytes_eq-Decides key.items q.items).0 put
  where
    once : counted n copy ≡ 1
    once = inserted m n copy 1 u copy ∙ ap (λ b. cond b 1 (counted m copy)) ((bytes_eq-Decides copy.items copy.items).1 refl)

    some : 0 < counted n key
    some = let one : counted n key ≡ 1 = sym (same_count n copy key same) ∙ once in omega (arith, one)

    put : counted n q ≡ cond (bytes_eq key.items q.items) 1 (counted m q)
    put = inserted m n copy 1 u q ∙ ap (λ k. cond (bytes_eq k q.items) 1 (counted m q)) same

    here : before ≡ counted m key
    here = ap (λ x. unwrap_or x 0) had ∙ same_count m copy key same

    by : (b : Bool) → (b ≡ true → key.items ≡ q.items) → counted n q ≡ cond b 1 (counted m q) → cond b w (counted n q) ≡ counted m q + cond b 1 0
    by b h k = grind (arith, here, same_count)

pub counted_none : (m : KeyCounts) (key : Vec ℕ Global) → counted m key ≡ 0 → (q : Vec ℕ Global) → counted m q ≡ counted m q - one_at key.items q
counted_none m key e q = grind (arith, same_if m key q, e)

-- ---- keys and equality by value

-- equality keys decide which trees are equal by value
pub keys_decide : (t u : Tree) → Fits t → Fits u → bytes_eq (equality_key t) (equality_key u) ≡ is_equal t u
keys_decide t u h e = grind (arith, same_test, equality_keys_tell_apart, bytes_eq-Decides)

-- so the count of a tree's key is that of the trees which equal it
pub with_key-equality_key : (t : Tree) (us : List Tree) (key : Vec ℕ Global) → Fits t → AllByRecursion Fits us → key.items ≡ equality_key t
    → with_key key us ≡ count_of t us
with_key-equality_key t [] key f all e = refl
with_key-equality_key t (u ∷ us) key f all e =
    let front : with_key key (u ∷ us)
    ≡ cond (bytes_eq (equality_key u) key.items) 1 0 + with_key key us = sum_by-cons (λ x. cond (bytes_eq (equality_key x) key.items) 1 0) u us in
    let back : count_of t (u ∷ us) ≡ cond (is_equal u t) 1 0 + count_of t us = sum_by-cons (λ x. cond (is_equal x t) 1 0) u us in
    front ∙ ap₂ (λ b n. cond b 1 0 + n) (ap (bytes_eq (equality_key u)) e ∙ keys_decide u t all.0 f) (with_key-equality_key t us key f all.1 e) ∙ sym back

-- ---- which occurrences are kept

module _ (m : KeyCounts) (other before : List Tree) (t : Tree) (key : Vec ℕ Global) (f : Fits t) (e : key.items ≡ equality_key t) where
  left_test : counted m key ≡ with_key key other - with_key key before → AllByRecursion Fits other → AllByRecursion Fits before
      → nat_lt 0 (counted m key) ≡ is_shared other (before, t)
  left_test left all all_before =
      grind (arith, left, with_key-equality_key t other key f all e, with_key-equality_key t before key f all_before e)

  pub test_first : (kind : SetOperation) → kind ≡ First → CountsAfter kind m other before → nat_eq (counted m key) 0 ≡ keeps kind other (before, t)
  test_first kind is =
      rw is (λ (h : CountsAfter First m other before).
      ap (λ n. nat_eq n 0) (h.counts key ∙ with_key-equality_key t before key f h.fit_before e))

  pub test_shared : (kind : SetOperation) → kind ≡ Shared → CountsAfter kind m other before → nat_lt 0 (counted m key) ≡ keeps kind other (before, t)
  test_shared kind is = rw is (λ (h : CountsAfter Shared m other before). left_test (h.counts key) h.fit_other h.fit_before)

  pub test_unshared : (kind : SetOperation) → kind ≡ Unshared → CountsAfter kind m other before → not (nat_lt 0 (counted m key)) ≡ keeps kind other (before, t)
  test_unshared kind is = rw is (λ (h : CountsAfter Unshared m other before). ap not (left_test (h.counts key) h.fit_other h.fit_before))

-- ---- counting

-- what is counted and what is left are the whole
pub record CountsLeft (m : KeyCounts) (left whole : List Tree) : Type 0 where
  pub joined : (key : Vec ℕ Global) → counted m key + with_key key left ≡ with_key key whole

pub CountsLeft-all : (m : KeyCounts) (ts : List Tree) → ((key : Vec ℕ Global) → counted m key ≡ 0) → CountsLeft m ts ts
CountsLeft-all m ts none = record { joined = λ key. let z : counted m key ≡ 0 = none key in omega arith }

pub CountsLeft-next : (m n : KeyCounts) (key : Vec ℕ Global) (first : Tree) (rest whole : List Tree) → CountsLeft m (first ∷ rest) whole
    → key.items ≡ equality_key first → length whole < 2 ^ 63
    → (counted m key < 2 ^ 63 → (other : Vec ℕ Global) → counted n other ≡ counted m other + one_at key.items other) → CountsLeft n rest whole
CountsLeft-next m n key first rest whole h e short more = record { joined = joined }
  where
    joined : (other : Vec ℕ Global) → counted n other + with_key other rest ≡ with_key other whole
    joined other =
        let few : with_key key whole ≤ length whole = count_by-le-length (λ t. bytes_eq (equality_key t) key.items) whole in
        let at_key : counted m key + with_key key (first ∷ rest) ≡ with_key key whole = h.joined key in
        let one : one_at key.items other ≡ one_at (equality_key first) other = ap (λ k. one_at k other) e in
        let now : counted n other ≡ counted m other + one_at key.items other = more (omega arith) other in
        let split : with_key other (first ∷ rest)
        ≡ one_at (equality_key first) other + with_key other rest = sum_by-cons (λ t. one_at (equality_key t) other) first rest in
        let whole_other : counted m other + with_key other (first ∷ rest) ≡ with_key other whole = h.joined other in
        omega arith

-- ---- elements that are passed

same_front : (t : Tree) (rest : List Tree) (m n : ℕ) → m ≡ n → count_of t (take m rest) ≡ 0 + count_of t (take n rest)
same_front t rest m n is = rw is (omega arith)

-- the first of all elements are those before the others
count_in_order : (t : Tree) (before rest : List Tree) (n : ℕ)
    → count_of t (take (length before + n) (in_order before rest)) ≡ count_of t before + count_of t (take n rest)
count_in_order t [] rest n = same_front t rest (0 + n) n (omega arith)
count_in_order t (b ∷ before) rest n =
    let one_more : length (b ∷ before) + n ≡ length before + suc n = omega arith in
    let all : count_of t (take (length before + suc n) (in_order before (b ∷ rest)))
    ≡ count_of t before + count_of t (b ∷ take n rest) = count_in_order t before (b ∷ rest) (suc n) in
    rw one_more (omega (arith, all, count-cons t b (take n rest), count-cons t b before))

pub passed_count : (form : Form) (elements : ElementsPassed) (other before rest : List Tree) (t : Tree)
    → ArePassed form elements other before rest
    → count_of t (take elements.passed (in_order before rest)) ≡ count_of t before
passed_count form elements other before rest t h = search (arith, h.passed_is, count_in_order t before rest 0)

pub passed_next : (form : Form) (elements : ElementsPassed) (n : ℕ) (other before rest : List Tree) (t : Tree)
    → ArePassed form elements other before (t ∷ rest) → n ≡ min (elements.passed + 1) (2 ^ 64 - 1)
    → ArePassed form (record { all = elements.all; passed = n; others = elements.others }) other (t ∷ before) rest
passed_next form elements n other before rest t h is = grind arith

-- ---- counting

-- What is counted, and those that equal the tree among the next of what is left, are the whole.
pub record EqualLeft (form : Form) (left : Entries) (more equal : ℕ) (u : Tree) (whole : ℕ) : Type 0 where
  pub rest : List Tree
  pub holds : HoldTrees form left rest
  pub joined : equal + count_of u (take more rest) ≡ whole

module _ (form : Form) (left : Entries) (more equal : ℕ) (u : Tree) (whole : ℕ) (h : EqualLeft form left more equal u whole) where
  pub EqualLeft-next : (others : Entries) (now : ℕ) (t : Tree) (rest : List Tree) → h.rest ≡ t ∷ rest → HoldTrees form others rest
      → 0 < more → now ≡ equal + cond (is_equal t u) 1 0 → EqualLeft form others (more - 1) now u whole
  EqualLeft-next others now t rest split hold some is =
      let next = count-cons u t (take (more - 1) rest) in
      record { rest = rest; holds = hold; joined = omega (arith, is, rw (take_one more t rest some) at (rw split at h.joined), next) }

-- What is left has as many equal to the tree as all have, less those that may still be passed.
pub record MoreLeft (form : Form) (left : Entries) (more count : ℕ) (u : Tree) (whole : ℕ) : Type 0 where
  pub rest : List Tree
  pub holds : HoldTrees form left rest
  pub joined : whole + more ≡ count + count_of u rest

module _ (form : Form) (left : Entries) (more count : ℕ) (u : Tree) (whole : ℕ) (h : MoreLeft form left more count u whole) where
  pub MoreLeft-found : (equal : ℕ) (t : Tree) (rest : List Tree) → h.rest ≡ t ∷ rest → equal ≡ cond (is_equal t u) 1 0 → more < equal
      → true ≡ nat_lt count whole
  MoreLeft-found equal t rest split is less = search (arith, split, h.joined, count-cons u t rest, is, less, nat_tests)

  pub MoreLeft-next : (others : Entries) (now equal : ℕ) (t : Tree) (rest : List Tree) → h.rest ≡ t ∷ rest → HoldTrees form others rest
      → equal ≡ cond (is_equal t u) 1 0 → now + equal ≡ more → MoreLeft form others now count u whole
  MoreLeft-next others now equal t rest split hold is less = search (arith, split, h.joined, count-cons u t rest, rest, hold, is, less)

pub none_left : (n whole : ℕ) → false ≡ nat_lt 0 whole → false ≡ nat_lt n whole
none_left n whole h = grind (arith, nat_lt, nat_tests)

-- ---- counts before the first element

pub members_few : (t : Tree) → Fits t → length (as_elements t) < 2 ^ 63
members_few t h = grind (arith, elements_few)

pub counted_begun : (kind : SetOperation) (r : Result KeyCounts Error) (other : List Tree) → (kind ≡ First → ⊥) → AllByRecursion Fits other
    → MatchResult r (λ m. CountsKeys m other) IsOutOfMemory → MatchResult r (λ m. CountsAfter kind m other []) IsOutOfMemory
counted_begun kind r other h e k = grind arith

pub follows : {P Q : Type 0} (R : Bool → Type 0) (r : Result Bool Error) → (P → Q) → MatchResult r R IsOutOfMemory → MatchResult r (λ _. P) IsOutOfMemory
    → MatchResult r (λ b. R b × Q) IsOutOfMemory
follows R r h e k = grind arith

-- ---- elements that have a counted key

counted_some : (t : Tree) (us : List Tree) → nat_lt 0 (count_of t us) ≡ list_any (is_equal t) us
counted_some t [] = refl
counted_some t (u ∷ us) = grind (arith, nat_tests, count-cons t u us, is_equal_equiv.symm t u, counted_some t us)

-- a tree's key is counted if and only if one of the trees that were counted equals it
pub key_counted : (m : KeyCounts) (us : List Tree) (t : Tree) (key : Vec ℕ Global) → CountsKeys m us → Fits t → AllByRecursion Fits us
    → key.items ≡ equality_key t → nat_lt 0 (counted m key) ≡ list_any (is_equal t) us
key_counted m us t key h f all e = ap (nat_lt 0) (h key ∙ with_key-equality_key t us key f all e) ∙ counted_some t us
