-- The places of leaves.
use Rattle.jsonb_raw.proofs.Common.{keys_rise, ◌≡◌, ℕ, zero, suc, pos, Bool, true, false, List, [], ◌∷◌, ◌++◌, drop, Some, refl, ◌∙◌, arith, Contains, if◌then◌else◌, bytes_eq, AllByRecursion, Tree, array, object, Trees, no_trees, tree, Pairs, no_pairs, pair, elements, keys, value_under, AreKeys, IsBelowFirst, IsInRange, AreInRange, ValuesAreInRange, Fits, bytes_eq-true, bytes_eq-same, Key, index, unquoted_name, Leaf, is_leaf, leaves_at, leaves, leaves_of_trees, leaves_of_pairs, behind, tree_at_steps, child_met}
use Rattle.jsonb_raw.proofs.ChildLemmas.{split_at, from_front}
use Rattle.jsonb_raw.proofs.PartedRuns.{no_value}
use Rattle.jsonb_raw.proofs.PositionLemmas.{field_met, step_by_step}

-- the leaf is at its place in the tree
abbrev pub IsInPlace : Tree → Leaf → Type 0
IsInPlace t leaf = tree_at_steps leaf.0 t ≡ Some leaf.1

pub AllByRecursion-append : {A : Type 0} (P : A → Type 0) (xs ys : List A) → AllByRecursion P xs → AllByRecursion P ys → AllByRecursion P (xs ++ ys)
AllByRecursion-append P [] ys h k = k
AllByRecursion-append P (x ∷ xs) ys h k = (h.0, AllByRecursion-append P xs ys h.1 k)

-- ---- one step

-- leaves of a child, one step further in
further_in : (whole t : Tree) (step : Key) (within : List Leaf) → child_met step whole ≡ Some t → AllByRecursion (IsInPlace t) within
    → AllByRecursion (IsInPlace whole) (behind (step ∷ []) within)
further_in whole t step [] met h = tt
further_in whole t step (leaf ∷ within) met h = grind (arith, step_by_step, further_in whole t step within met h.1)

at_child : (ignore_array : Bool) (whole t : Tree) (step : Key) (within : List Leaf) → child_met step whole ≡ Some t → AllByRecursion (IsInPlace t) within
    → AllByRecursion (IsInPlace whole) (leaves_at ignore_array step t within)
at_child ignore_array whole t step within met h = further_in whole t step _ met (go (is_leaf ignore_array t))
  where
    go : (b : Bool) → AllByRecursion (IsInPlace t) (if b then ([], t) ∷ [] else within)
    go true = (refl, tt)
    go false = h

-- ---- the keys of an object

-- what is under a key in the back of an object is under it in the object
abbrev IsBack : Pairs → Pairs → Type 0
IsBack ps back = (name : List ℕ) (u : Tree) → value_under name back ≡ Some u → value_under name ps ≡ Some u

behind_first : (ps rest : Pairs) (key : List ℕ) (t : Tree) → IsBelowFirst key (keys rest) → AreKeys (keys rest) → IsBack ps (pair key t rest) → IsBack ps rest
behind_first ps rest key t below are back name u found = back name u (skipped (bytes_eq key name) refl)
  where
    skipped : (b : Bool) → bytes_eq key name ≡ b → value_under name (pair key t rest) ≡ Some u
    skipped true same = cc (found, no_value key rest below (keys_rise (keys rest) are), bytes_eq-true key name same)
    skipped false other = rw other found

-- ---- all leaves

mutual
  pub each_in_place : (ignore_array : Bool) (t : Tree) → IsInRange t → AllByRecursion (IsInPlace t) (leaves ignore_array t)
  each_in_place true (array ts) r = tt
  each_in_place false (array ts) r = trees_in_place false ts 0 ts refl r
  each_in_place ignore_array (object ps) r = pairs_in_place ignore_array ps ps (λ name u found. found) r.0 r.1
  each_in_place ignore_array _ r = tt

  trees_in_place : (ignore_array : Bool) (all : Trees) (n : ℕ) (ts : Trees) → drop n (elements all) ≡ elements ts → AreInRange ts
      → AllByRecursion (IsInPlace (array all)) (leaves_of_trees ignore_array n ts)
  trees_in_place ignore_array all n no_trees left r = tt
  trees_in_place ignore_array all n (tree t ts) left r =
      let s = split_at (elements all) n t (elements ts) left in
      AllByRecursion-append (IsInPlace (array all)) _ _
      (at_child ignore_array (array all) t (index (pos n)) (leaves ignore_array t) (from_front (elements all) n ∙ s.at) (each_in_place ignore_array t r.0))
      (trees_in_place ignore_array all (suc n) ts s.behind r.1)

  pairs_in_place : (ignore_array : Bool) (all ps : Pairs) → IsBack all ps → AreKeys (keys ps) → ValuesAreInRange ps
      → AllByRecursion (IsInPlace (object all)) (leaves_of_pairs ignore_array ps)
  pairs_in_place ignore_array all no_pairs back rising r = tt
  pairs_in_place ignore_array all (pair key t ps) back rising r =
      AllByRecursion-append (IsInPlace (object all)) _ _
      (at_child ignore_array (object all) t (unquoted_name key) (leaves ignore_array t)
      (field_met (unquoted_name key) all ∙ back key t (rw (bytes_eq-same key) refl)) (each_in_place ignore_array t r.0))
      (pairs_in_place ignore_array all ps (behind_first all ps key t rising.1 rising.2 back) rising.2 r.1)

of_AllByRecursion : {A : Type 0} (P : A → Type 0) (xs : List A) (x : A) → AllByRecursion P xs → Contains xs x → P x
of_AllByRecursion P [] x h c = absurd (omega (arith, c.1))
of_AllByRecursion P (y ∷ ys) x h (zero, within, is) = rw is at h.0
of_AllByRecursion P (y ∷ ys) x h (suc k, within, is) = of_AllByRecursion P ys x h.1 (k, omega arith, is)

pub leaves_are_in_place : (ignore_array : Bool) (t : Tree) → Fits t → (leaf : Leaf) → Contains (leaves ignore_array t) leaf
    → tree_at_steps leaf.0 t ≡ Some leaf.1
leaves_are_in_place ignore_array t fits leaf among = of_AllByRecursion (IsInPlace t) (leaves ignore_array t) leaf (each_in_place ignore_array t fits.0) among
