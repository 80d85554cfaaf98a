-- Equality by value is an equivalence, and the test of it agrees with the relation.
use Rattle.std.specs.Prelude.{◌≡◌, ◌↔◌, Bool, true, false, ◌&&◌, IsTrue}
use Rattle.std.specs.Bool.{Decides}
use Rattle.std.specs.Ordering.{eq_by_cmp, is_eq, int_eq}
use Rattle.std.specs.Str.{bytes_eq}
use Rattle.std.specs.Cmp.{IsEquivalence, IsPartialEquivalence, equiv, decided, eq_by_cmp_equiv, partial_equiv_from_equiv}
use Rattle.std.specs.declared.cmp.Ordering.{Ordering}
use Rattle.std.specs.declared.cmp.Ordering.TheVariants.{Less, Equal, Greater}
use Rattle.std.proofs.Common.{refl, ap, ap₂, ◌∙◌}
use Rattle.std.proofs.lemmas.Bool.Decides.{Decides-int_eq}
use Rattle.std.proofs.lemmas.Slice.Eq.{bytes_eq-Decides}
use Rattle.jsonb_doc.specs.Number.{Number, number_cmp}
use Rattle.jsonb_doc.specs.Proofs.NumberOrder.{number_cmp_total}
use Rattle.jsonb_doc.specs.Extension.{Extension, binary, date, timestamp, timestamp_tz, interval}
use Rattle.jsonb_doc.specs.Tree.{Tree, null, boolean, number, text, extension, array, object, Trees, no_trees, tree, Pairs, no_pairs, pair}
use Rattle.jsonb_doc.specs.Proofs.EqualTrees.{IsEqual, AreEqual, PairsAreEqual}
use Rattle.jsonb_doc.specs.Equal.{is_same_extension, is_equal, are_equal, pairs_are_equal}

pub both : (a b : Bool) → a ≡ true → b ≡ true → (a && b) ≡ true
both a b p q = ap₂ (λ x y. x && y) p q

pub first_of_both : (a b : Bool) → (a && b) ≡ true → a ≡ true
first_of_both true b h = refl
first_of_both false b h = h

pub second_of_both : (a b : Bool) → (a && b) ≡ true → b ≡ true
second_of_both true b h = h
second_of_both false b h = absurd (cc)

-- ---- extensions

same_extension : (x y : Extension) → is_same_extension x y ≡ true → x ≡ y
same_extension (binary a) (binary b) h = ap binary ((bytes_eq-Decides a b).0 h)
same_extension (date x) (date y) h = ap date ((Decides-int_eq x y).0 h)
same_extension (timestamp x) (timestamp y) h = ap timestamp ((Decides-int_eq x y).0 h)
same_extension (timestamp_tz o x) (timestamp_tz p y) h =
    ap₂ timestamp_tz ((Decides-int_eq o p).0 (first_of_both _ _ h)) ((Decides-int_eq x y).0 (second_of_both (int_eq o p) _ h))
same_extension (interval m d x) (interval n e y) h =
    let months : m ≡ n = (Decides-int_eq m n).0 (first_of_both _ _ (first_of_both _ _ h)) in
    let days : d ≡ e = (Decides-int_eq d e).0 (second_of_both (int_eq m n) _ (first_of_both _ _ h)) in
    let micros : x ≡ y = (Decides-int_eq x y).0 (second_of_both (int_eq m n && int_eq d e) _ h) in
    cc
same_extension x y h = absurd (cc)

extension_refl : (x : Extension) → is_same_extension x x ≡ true
extension_refl (binary a) = (bytes_eq-Decides a a).1 refl
extension_refl (date x) = (Decides-int_eq x x).1 refl
extension_refl (timestamp x) = (Decides-int_eq x x).1 refl
extension_refl (timestamp_tz o x) = both _ _ ((Decides-int_eq o o).1 refl) ((Decides-int_eq x x).1 refl)
extension_refl (interval m d x) =
    both _ _ (both _ _ ((Decides-int_eq m m).1 refl) ((Decides-int_eq d d).1 refl)) ((Decides-int_eq x x).1 refl)

pub is_same_extension-Decides : (x y : Extension) → Decides (is_same_extension x y) (x ≡ y)
is_same_extension-Decides x y = (same_extension x y, λ e. rw e (extension_refl y))

-- ---- an equivalence

bytes_per : IsPartialEquivalence bytes_eq
bytes_per = partial_equiv_from_equiv (decided bytes_eq bytes_eq-Decides)

extension_per : IsPartialEquivalence is_same_extension
extension_per = partial_equiv_from_equiv (decided is_same_extension is_same_extension-Decides)

number_equiv : IsEquivalence (eq_by_cmp number_cmp)
number_equiv = eq_by_cmp_equiv number_cmp_total

number_per : IsPartialEquivalence (eq_by_cmp number_cmp)
number_per = partial_equiv_from_equiv number_equiv

mutual
  is_equal_refl : (t : Tree) → is_equal t t ≡ true
  is_equal_refl null = refl
  is_equal_refl (boolean true) = refl
  is_equal_refl (boolean false) = refl
  is_equal_refl (number n) = number_equiv.refl n
  is_equal_refl (text a) = (bytes_eq-Decides a a).1 refl
  is_equal_refl (extension x) = extension_refl x
  is_equal_refl (array ts) = are_equal_refl ts
  is_equal_refl (object ps) = pairs_are_equal_refl ps

  are_equal_refl : (ts : Trees) → are_equal ts ts ≡ true
  are_equal_refl no_trees = refl
  are_equal_refl (tree t ts) = both _ _ (is_equal_refl t) (are_equal_refl ts)

  pairs_are_equal_refl : (ps : Pairs) → pairs_are_equal ps ps ≡ true
  pairs_are_equal_refl no_pairs = refl
  pairs_are_equal_refl (pair k t ps) = both _ _ (both _ _ ((bytes_eq-Decides k k).1 refl) (is_equal_refl t)) (pairs_are_equal_refl ps)

mutual
  is_equal_symm : (t u : Tree) → is_equal t u ≡ is_equal u t
  is_equal_symm null null = refl
  is_equal_symm (boolean true) (boolean true) = refl
  is_equal_symm (boolean true) (boolean false) = refl
  is_equal_symm (boolean false) (boolean true) = refl
  is_equal_symm (boolean false) (boolean false) = refl
  is_equal_symm (number m) (number n) = number_per.symm m n
  is_equal_symm (text a) (text b) = bytes_per.symm a b
  is_equal_symm (extension x) (extension y) = extension_per.symm x y
  is_equal_symm (array ts) (array us) = are_equal_symm ts us
  is_equal_symm (object ps) (object qs) = pairs_are_equal_symm ps qs
  is_equal_symm (boolean true) _ = refl
  is_equal_symm (boolean false) _ = refl
  is_equal_symm _ (boolean true) = refl
  is_equal_symm _ (boolean false) = refl
  is_equal_symm _ _ = refl

  are_equal_symm : (ts us : Trees) → are_equal ts us ≡ are_equal us ts
  are_equal_symm no_trees no_trees = refl
  are_equal_symm (tree t ts) (tree u us) = ap₂ (λ x y. x && y) (is_equal_symm t u) (are_equal_symm ts us)
  are_equal_symm _ _ = refl

  pairs_are_equal_symm : (ps qs : Pairs) → pairs_are_equal ps qs ≡ pairs_are_equal qs ps
  pairs_are_equal_symm no_pairs no_pairs = refl
  pairs_are_equal_symm (pair k t ps) (pair l u qs) =
      ap₂ (λ x y. x && y) (ap₂ (λ x y. x && y) (bytes_per.symm k l) (is_equal_symm t u)) (pairs_are_equal_symm ps qs)
  pairs_are_equal_symm _ _ = refl

-- ---- the relation

mutual
  pub equal_from_test : (t u : Tree) → is_equal t u ≡ true → IsEqual t u
  equal_from_test null null h = tt
  equal_from_test (boolean true) (boolean true) h = refl
  equal_from_test (boolean false) (boolean false) h = refl
  equal_from_test (number m) (number n) h = tied (number_cmp m n) h
    where
      tied : (o : Ordering) → is_eq o ≡ true → o ≡ Equal
      tied Less h = absurd (cc)
      tied Equal h = refl
      tied Greater h = absurd (cc)
  equal_from_test (text a) (text b) h = (bytes_eq-Decides a b).0 h
  equal_from_test (extension x) (extension y) h = same_extension x y h
  equal_from_test (array ts) (array us) h = equal_from_tests ts us h
  equal_from_test (object ps) (object qs) h = equal_from_pair_tests ps qs h
  equal_from_test (boolean true) u h = absurd (cc)
  equal_from_test (boolean false) u h = absurd (cc)
  equal_from_test t u h = absurd (cc)

  equal_from_tests : (ts us : Trees) → are_equal ts us ≡ true → AreEqual ts us
  equal_from_tests no_trees no_trees h = tt
  equal_from_tests (tree t ts) (tree u us) h = (equal_from_test t u (first_of_both _ _ h), equal_from_tests ts us (second_of_both (is_equal t u) _ h))
  equal_from_tests ts us h = absurd (cc)

  equal_from_pair_tests : (ps qs : Pairs) → pairs_are_equal ps qs ≡ true → PairsAreEqual ps qs
  equal_from_pair_tests no_pairs no_pairs h = tt
  equal_from_pair_tests (pair k t ps) (pair l u qs) h =
      let first = first_of_both (bytes_eq k l && is_equal t u) (pairs_are_equal ps qs) h in (
        (bytes_eq-Decides k l).0 (first_of_both _ _ first),
        equal_from_test t u (second_of_both (bytes_eq k l) _ first),
        equal_from_pair_tests ps qs (second_of_both (bytes_eq k l && is_equal t u) _ h),
      )
  equal_from_pair_tests ps qs h = absurd (cc)

mutual
  pub is_equal-true : (t u : Tree) → IsEqual t u → is_equal t u ≡ true
  is_equal-true null null h = refl
  is_equal-true (boolean a) (boolean b) h = rw h (is_equal_refl (boolean b))
  is_equal-true (number m) (number n) h = ap is_eq h
  is_equal-true (text a) (text b) h = (bytes_eq-Decides a b).1 h
  is_equal-true (extension x) (extension y) h = (is_same_extension-Decides x y).1 h
  is_equal-true (array ts) (array us) h = are_equal-true ts us h
  is_equal-true (object ps) (object qs) h = pairs_are_equal-true ps qs h
  is_equal-true t u h = absurd h

  are_equal-true : (ts us : Trees) → AreEqual ts us → are_equal ts us ≡ true
  are_equal-true no_trees no_trees h = refl
  are_equal-true (tree t ts) (tree u us) h = both _ _ (is_equal-true t u h.0) (are_equal-true ts us h.1)
  are_equal-true ts us h = absurd h

  pairs_are_equal-true : (ps qs : Pairs) → PairsAreEqual ps qs → pairs_are_equal ps qs ≡ true
  pairs_are_equal-true no_pairs no_pairs h = refl
  pairs_are_equal-true (pair k t ps) (pair l u qs) h =
      both _ _ (both _ _ ((bytes_eq-Decides k l).1 h.0) (is_equal-true t u h.1)) (pairs_are_equal-true ps qs h.2)
  pairs_are_equal-true ps qs h = absurd h

pub is_equal-IsEqual : (t u : Tree) → IsTrue (is_equal t u) ↔ IsEqual t u
is_equal-IsEqual t u = (equal_from_test t u, is_equal-true t u)

-- equal by value to one tree, equal by value to each other
same_number : (m n o : Number) → number_cmp m n ≡ Equal → number_cmp n o ≡ Equal → number_cmp m o ≡ Equal
same_number m n o h k = number_cmp_total.congr m n o h ∙ k

mutual
  IsEqual_trans : (t u v : Tree) → IsEqual t u → IsEqual u v → IsEqual t v
  IsEqual_trans null null v h k = k
  IsEqual_trans (boolean a) (boolean b) (boolean c) h k = h ∙ k
  IsEqual_trans (number m) (number n) (number o) h k = same_number m n o h k
  IsEqual_trans (text a) (text b) (text c) h k = h ∙ k
  IsEqual_trans (extension x) (extension y) (extension z) h k = h ∙ k
  IsEqual_trans (array ts) (array us) (array vs) h k = AreEqual_trans ts us vs h k
  IsEqual_trans (object ps) (object qs) (object rs) h k = PairsAreEqual_trans ps qs rs h k
  IsEqual_trans (boolean a) (boolean b) v h k = absurd k
  IsEqual_trans (number m) (number n) v h k = absurd k
  IsEqual_trans (text a) (text b) v h k = absurd k
  IsEqual_trans (extension x) (extension y) v h k = absurd k
  IsEqual_trans (array ts) (array us) v h k = absurd k
  IsEqual_trans (object ps) (object qs) v h k = absurd k
  IsEqual_trans t u v h k = absurd h

  AreEqual_trans : (ts us vs : Trees) → AreEqual ts us → AreEqual us vs → AreEqual ts vs
  AreEqual_trans no_trees no_trees vs h k = k
  AreEqual_trans (tree t ts) (tree u us) (tree v vs) h k = (IsEqual_trans t u v h.0 k.0, AreEqual_trans ts us vs h.1 k.1)
  AreEqual_trans (tree t ts) (tree u us) no_trees h k = absurd k
  AreEqual_trans ts us vs h k = absurd h

  PairsAreEqual_trans : (ps qs rs : Pairs) → PairsAreEqual ps qs → PairsAreEqual qs rs → PairsAreEqual ps rs
  PairsAreEqual_trans no_pairs no_pairs rs h k = k
  PairsAreEqual_trans (pair a t ps) (pair b u qs) (pair c v rs) h k =
      (h.0 ∙ k.0, IsEqual_trans t u v h.1 k.1, PairsAreEqual_trans ps qs rs h.2 k.2)
  PairsAreEqual_trans (pair a t ps) (pair b u qs) no_pairs h k = absurd k
  PairsAreEqual_trans ps qs rs h k = absurd h

is_equal_trans : (t u v : Tree) → is_equal t u ≡ true → is_equal u v ≡ true → is_equal t v ≡ true
is_equal_trans t u v h k = is_equal-true t v (IsEqual_trans t u v (equal_from_test t u h) (equal_from_test u v k))

pub is_equal_equiv : IsEquivalence is_equal
is_equal_equiv = equiv (record { symm = is_equal_symm; trans = is_equal_trans }) is_equal_refl
