-- A tree contains itself, and what the trees that it contains do.
use Rattle.jsonb_raw.proofs.Common.{◌≡◌, ℕ, Bool, true, false, ◌&&◌, ◌||◌, not, IsTrue, List, [], ◌∷◌, ◌++◌, refl, sym, ◌∙◌, append_assoc, bytes_eq, arith, list_any, bytes_eq-Decides, Tree, extension, array, object, Trees, no_trees, tree, Pairs, no_pairs, pair, elements, members, is_equal, is_equal_equiv, both, first_of_both, second_of_both, partial_equiv_from_equiv, is_extension_value, is_json_scalar, contains, is_part_of, each_is_matched, each_pair_is_matched, bytes_eq-same}
use Rattle.jsonb_raw.proofs.ContainLemmas.{contains-extension, contains-array, contains-object, array_contains_plain, object_equals_no_plain, extension_equals_no_plain}

-- ---- lists

-- a test that an element in the middle passes
pub any_middle : {A : Type 0} (p : A → Bool) (before after : List A) (x : A) → p x ≡ true → list_any p (before ++ x ∷ after) ≡ true
any_middle p [] after x h = rw h refl
any_middle p (y ∷ ys) after x h = grind (arith, any_middle p ys after x h)

-- a weaker test is passed too
pub any_more : {A : Type 0} (p q : A → Bool) (xs : List A) → list_any p xs ≡ true → ((x : A) → p x ≡ true → q x ≡ true) → list_any q xs ≡ true
any_more p q [] h f = absurd (cc)
any_more {A = A} p q (x ∷ xs) h f =
    let more : list_any p xs ≡ true → list_any q xs ≡ true = λ k. any_more p q xs k f in grind (arith, h, f x, more)

-- one of the elements passes p, so what matches it passes q
each_any : (us : Trees) (xs : List Tree) (p q : Tree → Bool) → each_is_matched us xs ≡ true → list_any p (elements us) ≡ true
    → ((u x : Tree) → p u ≡ true → is_part_of u x ≡ true → q x ≡ true) → list_any q xs ≡ true
each_any no_trees xs p q h k f = absurd (cc)
each_any (tree u us) xs p q h k f = by (p u) refl k (each_any us xs p q (second_of_both (list_any (is_part_of u) xs) _ h))
  where
    by : (b : Bool) → p u ≡ b → (b || list_any p (elements us)) ≡ true
        → (list_any p (elements us) ≡ true → ((u x : Tree) → p u ≡ true → is_part_of u x ≡ true → q x ≡ true) → list_any q xs ≡ true) → list_any q xs ≡ true
    by true e k more = any_more (is_part_of u) q xs (first_of_both _ _ h) (λ x. f u x e)
    by false e k more = more k f

each_pair_any : (us : Pairs) (xs : List (List ℕ × Tree)) (p q : List ℕ × Tree → Bool) → each_pair_is_matched us xs ≡ true → list_any p (members us) ≡ true
    → ((u x : List ℕ × Tree) → p u ≡ true → (bytes_eq x.0 u.0 && is_part_of u.1 x.1) ≡ true → q x ≡ true) → list_any q xs ≡ true
each_pair_any no_pairs xs p q h k f = absurd (cc)
each_pair_any (pair l u us) xs p q h k f = by (p (l, u)) refl k
    (each_pair_any us xs p q (second_of_both (list_any (λ x. bytes_eq x.0 l && is_part_of u x.1) xs) _ h))
  where
    by : (b : Bool) → p (l, u) ≡ b → (b || list_any p (members us)) ≡ true
        → (list_any p (members us) ≡ true → ((u x : List ℕ × Tree) → p u ≡ true → (bytes_eq x.0 u.0 && is_part_of u.1 x.1) ≡ true → q x ≡ true)
        → list_any q xs ≡ true) → list_any q xs ≡ true
    by true e k more = any_more (λ x. bytes_eq x.0 l && is_part_of u x.1) q xs (first_of_both _ _ h) (λ x. f (l, u) x e)
    by false e k more = more k f

-- ---- a tree matches itself

mutual
  pub matched_refl : (t : Tree) → is_part_of t t ≡ true
  matched_refl (array ts) = each_refl ts (elements ts) [] refl
  matched_refl (object ps) = each_pair_refl ps (members ps) [] refl
  matched_refl t = is_equal_equiv.refl t

  -- each of the elements that are left is in the whole list
  each_refl : (ts : Trees) (whole before : List Tree) → whole ≡ before ++ elements ts → each_is_matched ts whole ≡ true
  each_refl no_trees whole before e = refl
  each_refl (tree t ts) whole before e = both _ _
      (rw e (any_middle (is_part_of t) before (elements ts) t (matched_refl t)))
      (each_refl ts whole (before ++ t ∷ []) (e ∙ sym (append_assoc before (t ∷ []) (elements ts))))

  each_pair_refl : (ps : Pairs) (whole before : List (List ℕ × Tree)) → whole ≡ before ++ members ps → each_pair_is_matched ps whole ≡ true
  each_pair_refl no_pairs whole before e = refl
  each_pair_refl (pair k t ps) whole before e = both _ _
      (rw e (any_middle (λ p. bytes_eq p.0 k && is_part_of t p.1) before (members ps) (k, t) (both _ _ (bytes_eq-same k) (matched_refl t))))
      (each_pair_refl ps whole (before ++ (k, t) ∷ []) (e ∙ sym (append_assoc before ((k, t) ∷ []) (members ps))))

pub contains_refl : (t : Tree) → IsTrue (not (is_extension_value t)) → contains t t ≡ true
contains_refl (extension x) e = absurd (cc)
contains_refl (array ts) e = each_refl ts (elements ts) [] refl
contains_refl (object ps) e = each_pair_refl ps (members ps) [] refl
contains_refl t e = is_equal_equiv.refl t

-- ---- what matches is passed on

abbrev not_container : Tree → Bool
not_container (array ts) = false
not_container (object ps) = false
not_container _ = true

equal_passed : (y u x : Tree) → not_container y ≡ true → is_equal u y ≡ true → is_part_of u x ≡ true → is_equal x y ≡ true
equal_passed y u x e h k = grind (arith, partial_equiv_from_equiv, is_equal_equiv)

-- an array is matched by arrays alone, and an object by objects
from_array : (us : Trees) (x : Tree) → is_part_of (array us) x ≡ true → (xs : Trees) × (x ≡ array xs)
from_array us x h = grind arith

from_object : (us : Pairs) (x : Tree) → is_part_of (object us) x ≡ true → (xs : Pairs) × (x ≡ object xs)
from_object us x h = grind arith

mutual
  matched_trans : (y u x : Tree) → is_part_of y u ≡ true → is_part_of u x ≡ true → is_part_of y x ≡ true
  matched_trans (array ys) u x h k =
      let (us, e) = from_array ys u h in
      let k' = rw e at k in
      let (xs, f) = from_array us x k' in
      rw f (each_trans ys us (elements xs) (rw e at h) (rw f at k'))
  matched_trans (object ys) u x h k =
      let (us, e) = from_object ys u h in
      let k' = rw e at k in
      let (xs, f) = from_object us x k' in
      rw f (each_pair_trans ys us (members xs) (rw e at h) (rw f at k'))
  matched_trans y u x h k = equal_passed y u x refl h k

  each_trans : (ys us : Trees) (xs : List Tree) → each_is_matched ys (elements us) ≡ true → each_is_matched us xs ≡ true → each_is_matched ys xs ≡ true
  each_trans no_trees us xs h k = refl
  each_trans (tree y ys) us xs h k = both _ _
      (each_any us xs (is_part_of y) (is_part_of y) k (first_of_both _ _ h) (λ u x a b. matched_trans y u x a b))
      (each_trans ys us xs (second_of_both (list_any (is_part_of y) (elements us)) _ h) k)

  each_pair_trans : (ys us : Pairs) (xs : List (List ℕ × Tree)) → each_pair_is_matched ys (members us) ≡ true → each_pair_is_matched us xs ≡ true
      → each_pair_is_matched ys xs ≡ true
  each_pair_trans no_pairs us xs h k = refl
  each_pair_trans (pair l y ys) us xs h k = both _ _
      (each_pair_any us xs (λ p. bytes_eq p.0 l && is_part_of y p.1) (λ p. bytes_eq p.0 l && is_part_of y p.1) k (first_of_both _ _ h)
      (λ u x a b. both _ _ ((bytes_eq-Decides x.0 l).1 ((bytes_eq-Decides x.0 u.0).0 (first_of_both _ _ b) ∙ (bytes_eq-Decides u.0 l).0 (first_of_both _ _ a)))
      (matched_trans y u.1 x.1 (second_of_both (bytes_eq u.0 l) _ a) (second_of_both (bytes_eq x.0 u.0) _ b))))
      (each_pair_trans ys us xs (second_of_both (list_any (λ p. bytes_eq p.0 l && is_part_of y p.1) (members us)) _ h) k)

-- ---- what is contained is passed on

-- a plain value is matched by an element of an array, or by the tree
abbrev plain_in : Tree → Tree → Bool
plain_in v (array ts) = list_any (is_part_of v) (elements ts)
plain_in v t = is_part_of v t

contains_plain : (t v : Tree) → is_json_scalar v ≡ true → contains t v ≡ plain_in v t
contains_plain t v h = grind (arith, extension_equals_no_plain, array_contains_plain, object_equals_no_plain)

plain_in_trans : (v u t : Tree) → is_part_of v u ≡ true → plain_in u t ≡ true → plain_in v t ≡ true
plain_in_trans v u (array ts) h k = any_more (is_part_of u) (is_part_of v) (elements ts) k (λ x a. matched_trans v u x h a)
plain_in_trans v u t h k = matched_trans v u t h k

plain_trans : (t u v : Tree) → is_json_scalar v ≡ true → contains t u ≡ true → contains u v ≡ true → plain_in v t ≡ true
plain_trans t (array us) v p h k =
    let m = sym (contains-array t us) ∙ h in
    let (ts, e) = from_array us t m in
    rw e (each_any us (elements ts) (is_part_of v) (is_part_of v) (rw e at m) (sym (contains_plain (array us) v p) ∙ k) (λ u x a b. matched_trans v u x a b))
plain_trans t (object us) v p h k = absurd (cc (sym (object_equals_no_plain us v p) ∙ none us v p, k))
  where
    none : (us : Pairs) (v : Tree) → is_json_scalar v ≡ true → is_equal (object us) v ≡ false
    none us v h = grind arith
plain_trans t (extension x) v p h k = absurd (cc (contains-extension t x, h))
plain_trans t u v p h k = plain_in_trans v u t (sym (contains_plain u v p) ∙ k) (sym (contains_plain t u refl) ∙ h)

pub contains_trans : (t u v : Tree) → contains t u ≡ true → contains u v ≡ true → contains t v ≡ true
contains_trans t u (array vs) h k =
    let m = sym (contains-array u vs) ∙ k in
    let (us, e) = from_array vs u m in
    contains-array t vs ∙ matched_trans (array vs) u t m (rw e (sym (contains-array t us) ∙ rw e at h))
contains_trans t u (object vs) h k =
    let m = sym (contains-object u vs) ∙ k in
    let (us, e) = from_object vs u m in
    contains-object t vs ∙ matched_trans (object vs) u t m (rw e (sym (contains-object t us) ∙ rw e at h))
contains_trans t u (extension x) h k = absurd (cc (contains-extension u x, k))
contains_trans t u v h k = contains_plain t v refl ∙ plain_trans t u v refl h k
