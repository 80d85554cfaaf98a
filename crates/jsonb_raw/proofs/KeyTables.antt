-- Tables of equality keys: what they have while elements are added, and what they say of a value.
use Rattle.jsonb_raw.proofs.Common.{◌≡◌, ◌+◌, ◌<◌, ◌≤◌, ◌^◌, ◌||◌, ◌++◌, ℕ, Bool, true, false, List, [], ◌∷◌, refl, sym, ap, ap₂, ◌∙◌, arith, length, nat_lt, append_assoc, Vec, bytes_eq, bytes_eq-Decides, count_by-le-length, sum_by-cons, AllByRecursion, list_any, Tree, array, object, Trees, no_trees, tree, Pairs, no_pairs, pair, elements, members, Fits, is_equal, are_equal, pairs_are_equal, is_equal_equiv, both, first_of_both, second_of_both, equality_key, counted, one_at, with_key, CountsKeys, KeyCounts, is_container, is_part_of, each_is_matched, each_pair_is_matched, or_false, ◌&&◌, HasKeysOf, TellsMatch, Global}
use Rattle.jsonb_raw.specs.declared.functions.array.key_table.KeyTable.{KeyTable}
use Rattle.jsonb_raw.proofs.ContainsLaws.{any_middle, any_more}
use Rattle.jsonb_raw.proofs.ElementsSeen.{key_counted}

-- ---- what equals a tree matches it

mutual
  pub equal_matches : (y x : Tree) → is_equal y x ≡ true → is_part_of y x ≡ true
  equal_matches (array ys) (array xs) h = each_equal ys xs (elements xs) [] refl h
  equal_matches (object qs) (object ps) h = pairs_equal qs ps (members ps) [] refl h
  equal_matches y x h = is_equal_equiv.symm x y ∙ h

  -- each of the elements is in the whole list, whose last equal them one by one
  each_equal : (ys xs : Trees) (whole before : List Tree) → whole ≡ before ++ elements xs → are_equal ys xs ≡ true → each_is_matched ys whole ≡ true
  each_equal no_trees xs whole before e h = refl
  each_equal (tree y ys) no_trees whole before e h = absurd (cc)
  each_equal (tree y ys) (tree x xs) whole before e h = both _ _
      (rw e (any_middle (is_part_of y) before (elements xs) x (equal_matches y x (first_of_both _ _ h))))
      (each_equal ys xs whole (before ++ x ∷ []) (e ∙ sym (append_assoc before (x ∷ []) (elements xs))) (second_of_both (is_equal y x) _ h))

  pairs_equal : (qs ps : Pairs) (whole before : List (List ℕ × Tree)) → whole ≡ before ++ members ps → pairs_are_equal qs ps ≡ true
      → each_pair_is_matched qs whole ≡ true
  pairs_equal no_pairs ps whole before e h = refl
  pairs_equal (pair k y qs) no_pairs whole before e h = absurd (cc)
  pairs_equal (pair k y qs) (pair l x ps) whole before e h =
      let first = first_of_both (bytes_eq k l && is_equal y x) (pairs_are_equal qs ps) h in
      let rest = second_of_both (bytes_eq k l && is_equal y x) (pairs_are_equal qs ps) h in
      let same : bytes_eq l k ≡ true = (bytes_eq-Decides l k).1 (sym ((bytes_eq-Decides k l).0 (first_of_both (bytes_eq k l) (is_equal y x) first))) in
      let matches = equal_matches y x (second_of_both (bytes_eq k l) (is_equal y x) first) in
      both _ _
      (rw e (any_middle (λ p. bytes_eq p.0 k && is_part_of y p.1) before (members ps) (l, x) (both _ _ same matches)))
      (pairs_equal qs ps whole (before ++ (l, x) ∷ []) (e ∙ sym (append_assoc before ((l, x) ∷ []) (members ps))) rest)

-- a scalar matches what it equals
scalar_equal : (y x : Tree) → is_container y ≡ false → is_part_of y x ≡ is_equal y x
scalar_equal (array ys) x h = absurd (cc)
scalar_equal (object qs) x h = absurd (cc)
scalar_equal y x h = is_equal_equiv.symm x y

scalars_equal : (y : Tree) (xs : List Tree) → is_container y ≡ false → list_any (is_part_of y) xs ≡ list_any (is_equal y) xs
scalars_equal y [] h = refl
scalars_equal y (x ∷ xs) h = ap₂ (λ a b. a || b) (scalar_equal y x h) (scalars_equal y xs h)

-- a scalar does not equal a container
scalar_differs : (y x : Tree) → is_container y ≡ false → is_container x ≡ true → is_equal y x ≡ false
scalar_differs y x h k = grind (arith, h, k)

-- ---- what a table says

each_way : (a b : Bool) → (a ≡ true → b ≡ true) → (b ≡ true → a ≡ true) → a ≡ b
each_way a b h k = grind arith

pub key_tells : (table : KeyTable) (ts : List Tree) (t : Tree) (key : Vec ℕ Global) → HasKeysOf table ts → Fits t → key.items ≡ equality_key t
    → TellsMatch t ts (nat_lt 0 (counted table.keys key))
key_tells table ts t key h f e =
    let same : nat_lt 0 (counted table.keys key) ≡ list_any (is_equal t) h.kept = key_counted table.keys h.kept t key h.counts f h.fit e in (
      λ yes. any_more (is_equal t) (is_part_of t) ts (h.only t (sym same ∙ yes)) (equal_matches t),
      λ scalar. same ∙ each_way _ _ (h.only t) (h.scalars t scalar) ∙ sym (scalars_equal t ts scalar),
    )

-- ---- while elements are added

-- the keys of some elements are counted, among them all scalars except those that are left
pub record KeysLeft (m : KeyCounts) (left whole : List Tree) : Type 0 where
  pub kept : List Tree
  pub counts : CountsKeys m kept
  pub fit : AllByRecursion Fits kept
  pub fit_left : AllByRecursion Fits left
  pub few : length kept + length left < 2 ^ 63
  pub only : (t : Tree) → (list_any (is_equal t) kept || list_any (is_equal t) left) ≡ true → list_any (is_equal t) whole ≡ true
  pub scalars : (t : Tree) → is_container t ≡ false → list_any (is_equal t) whole ≡ true → (list_any (is_equal t) kept || list_any (is_equal t) left) ≡ true

pub KeysLeft-all : (m : KeyCounts) (ts : List Tree) → ((key : Vec ℕ Global) → counted m key ≡ 0) → AllByRecursion Fits ts → length ts < 2 ^ 63
    → KeysLeft m ts ts
KeysLeft-all m ts none fit few = record {
  kept = [];
  counts = none;
  fit = tt;
  fit_left = fit;
  few = omega (arith, few);
  only = λ t h. h;
  scalars = λ t s h. h;
}

module _ (m : KeyCounts) (first : Tree) (rest whole : List Tree) (h : KeysLeft m (first ∷ rest) whole) where
  -- the key of the next is counted
  pub KeysLeft-counted : (n : KeyCounts) (key : Vec ℕ Global) → key.items ≡ equality_key first
      → (counted m key < 2 ^ 63 → (other : Vec ℕ Global) → counted n other ≡ counted m other + one_at key.items other) → KeysLeft n rest whole
  KeysLeft-counted n key e more = record {
    kept = first ∷ h.kept;
    counts = counts;
    fit = (h.fit_left.0, h.fit);
    fit_left = h.fit_left.1;
    few = omega (arith, h.few);
    only = λ t k. h.only t (sym (turned (is_equal t first) (list_any (is_equal t) h.kept) (list_any (is_equal t) rest)) ∙ k);
    scalars = λ t s k. turned (is_equal t first) (list_any (is_equal t) h.kept) (list_any (is_equal t) rest) ∙ h.scalars t s k;
  }
    where
      turned : (a b d : Bool) → ((a || b) || d) ≡ (b || (a || d))
      turned a b d = grind arith

      counts : CountsKeys n (first ∷ h.kept)
      counts other =
          let few : with_key key h.kept ≤ length h.kept = count_by-le-length (λ t. bytes_eq (equality_key t) key.items) h.kept in
          let at_key : counted m key ≡ with_key key h.kept = h.counts key in
          let one : one_at key.items other ≡ one_at (equality_key first) other = ap (λ k. one_at k other) e in
          let now : counted n other ≡ counted m other + one_at key.items other = more (omega (arith, h.few)) other in
          let split : with_key other (first ∷ h.kept)
          ≡ one_at (equality_key first) other + with_key other h.kept = sum_by-cons (λ t. one_at (equality_key t) other) first h.kept in
          let before : counted m other ≡ with_key other h.kept = h.counts other in
          omega arith

  -- a container is left out
  pub KeysLeft-passed : is_container first ≡ true → KeysLeft m rest whole
  KeysLeft-passed k = record {
    kept = h.kept;
    counts = h.counts;
    fit = h.fit;
    fit_left = h.fit_left.1;
    few = omega (arith, h.few);
    only = λ t some. h.only t (later (is_equal t first) _ _ some);
    scalars = λ t s some. rw (scalar_differs t first s k) at (h.scalars t s some);
  }
    where
      later : (a b d : Bool) → (b || d) ≡ true → (b || (a || d)) ≡ true
      later a b d some = grind arith

pub KeysLeft-none : (table : KeyTable) (whole : List Tree) → KeysLeft table.keys [] whole → HasKeysOf table whole
KeysLeft-none table whole h = record {
  kept = h.kept;
  counts = h.counts;
  fit = h.fit;
  only = λ t some. h.only t (rw some refl);
  scalars = λ t s some. sym (or_false _) ∙ h.scalars t s some;
}
