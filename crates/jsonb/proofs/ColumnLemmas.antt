-- Columns of results, and what is made of them.
use Rattle.jsonb.proofs.Common.{◌≡◌, ◌≤◌, get_or, Vec, Global, drop, ℕ, zero, suc, ◌+◌, ◌<◌, List, [], ◌∷◌, ◌++◌, length, ◌^◌, slice_get_within, Some, Result, refl, sym, ap, ◌∙◌, subst, arith, slice_get, AllZip, Spot, Tree, Locates, Column, results, AreEach, AreFrom, AreMade, AreMapped, ArePairs, AreBoth, HasSome, IfOk, ReturnsAtBoth, zip_along}
use Rattle.std.specs.Borrow.{Bor}
use Rattle.std.specs.Fn.{Shared, FnReturns, FnReturnsAt}
use Rattle.std.specs.List.{AllByRecursion}
use Rattle.jsonb.specs.declared.selector.column.Column.TheVariants as column
use Rattle.jsonb.proofs.RepeatLemmas.{one_tree}

pub all_as : {A : Type 0} {P Q : A → Type 0} → ((x : A) → P x → Q x) → (xs : List A) → AllByRecursion P xs → AllByRecursion Q xs
all_as f [] a = tt
all_as f (x ∷ xs) a = (f x a.0, all_as f xs a.1)

pub zip_mapped : {A B C : Type 0} {P : A → B → Type 0} {R : A → C → Type 0} {S : B → C → Type 0} → ((x : A) (y : B) (t : C) → P x y → R x t → S y t)
    → (xs : List A) (ys : List B) (ts : List C) → AllZip P xs ys → AllZip R xs ts → AllZip S ys ts
zip_mapped f [] [] [] p r = tt
zip_mapped f (x ∷ xs) (y ∷ ys) (t ∷ ts) p r = (f x y t p.0 r.0, zip_mapped f xs ys ts p.1 r.1)
zip_mapped f _ _ _ p r = grind arith

zip_all : {A B : Type 0} {P : A → B → Type 0} {Q : A → Type 0} {S : B → Type 0} → ((x : A) (y : B) → P x y → Q x → S y)
    → (xs : List A) (ys : List B) → AllZip P xs ys → AllByRecursion Q xs → AllByRecursion S ys
zip_all f [] [] p q = tt
zip_all f (x ∷ xs) (y ∷ ys) p q = (f x y p.0 q.0, zip_all f xs ys p.1 q.1)
zip_all f _ _ p q = absurd p

pub zip_any : {A B : Type 0} {P : A → B → Type 0} {S : B → Type 0} → ((x : A) (y : B) → P x y → S y) → (xs : List A) (ys : List B) → AllZip P xs ys
    → AllByRecursion S ys
zip_any f [] [] p = tt
zip_any f (x ∷ xs) (y ∷ ys) p = (f x y p.0, zip_any f xs ys p.1)
zip_any f _ _ p = absurd p

-- ---- what is made of each item

pub each_made : {A : Type 0} {P : Spot → A → Type 0} {R : Spot → Tree → Type 0} {S : A → Tree → Type 0}
    → ((x : Spot) (y : A) (t : Tree) → P x y → R x t → S y t) → (xs : List Spot) (c : Column A) (ts : List Tree) → AllZip R xs ts → AreMade P xs c
    → AreEach S c ts
each_made f (x ∷ []) (column.Same y) (t ∷ []) r p = (f x y t p r.0, tt)
each_made f [] (column.Each v) ts r p = zip_mapped f [] v.items ts p r
each_made f (x ∷ y ∷ xs) (column.Each v) ts r p = zip_mapped f (x ∷ y ∷ xs) v.items ts p r
each_made f _ _ _ r p = grind arith

pub all_made : {A : Type 0} {P : Spot → A → Type 0} {S : A → Type 0} → ((x : Spot) (y : A) → P x y → S y) → (xs : List Spot) (c : Column A)
    → AreMade P xs c → AllByRecursion S (results c)
all_made f (x ∷ []) (column.Same y) p = (f x y p, tt)
all_made f [] (column.Each v) p = zip_any f [] v.items p
all_made f (x ∷ y ∷ xs) (column.Each v) p = zip_any f (x ∷ y ∷ xs) v.items p
all_made f _ _ p = absurd p

-- of the only item, and of none or several
pub made_one : {A : Type 0} (R : Spot → A → Type 0) (xs : List Spot) (d : Spot) (y : A) → 1 ≤ length xs → length xs ≤ 1 → R (get_or xs 0 d) y
    → AreMade R xs (column.Same y)
made_one R [] d y some few r = absurd (omega (arith, some))
made_one R (x ∷ []) d y some few r = r
made_one R (x ∷ z ∷ xs) d y some few r = absurd (omega (arith, few))

pub made_many : {A : Type 0} (R : Spot → A → Type 0) (xs : List Spot) (v : Vec A Global) → (length xs ≡ 1 → ⊥) → AllZip R xs v.items → AreMade R xs (column.Each v)
made_many R [] v h a = a
made_many R (x ∷ []) v h a = absurd (h refl)
made_many R (x ∷ y ∷ xs) v h a = a

-- ---- what is made of each result

pub each_mapped : {A B C : Type 0} {P : A → B → Type 0} {R : A → C → Type 0} {S : B → C → Type 0} → ((x : A) (y : B) (t : C) → P x y → R x t → S y t)
    → (c : Column A) (d : Column B) (ts : List C) → AreMapped P c d → AreEach R c ts → AreEach S d ts
each_mapped f (column.Same x) (column.Same y) (t ∷ ts) p r = all_as (λ u. f x y u p) (t ∷ ts) r
each_mapped f (column.Each v) (column.Each w) ts p r = zip_mapped f v.items w.items ts p r
each_mapped f _ _ _ p r = grind arith

pub all_mapped : {A B : Type 0} {P : A → B → Type 0} {Q : A → Type 0} {S : B → Type 0} → ((x : A) (y : B) → P x y → Q x → S y)
    → (c : Column A) (d : Column B) → AreMapped P c d → AllByRecursion Q (results c) → AllByRecursion S (results d)
all_mapped f (column.Same x) (column.Same y) p q = (f x y p q.0, tt)
all_mapped f (column.Each v) (column.Each w) p q = zip_all f v.items w.items p q
all_mapped f _ _ p q = absurd p

-- ---- what is made of two columns

module _ {A B C T : Type 0} {M : A → B → C → Type 0} {P : A → T → Type 0} {Q : B → T → Type 0} {S : C → T → Type 0}
    (f : (x : A) (y : B) (z : C) (t : T) → M x y z → P x t → Q y t → S z t) where
  same_left : (x : A) (ys : List B) (zs : List C) (ts : List T) → AllZip (M x) ys zs → AllByRecursion (P x) ts → AllZip Q ys ts → AllZip S zs ts
  same_left x [] [] [] m p q = tt
  same_left x (y ∷ ys) (z ∷ zs) (t ∷ ts) m p q = (f x y z t m.0 p.0 q.0, same_left x ys zs ts m.1 p.1 q.1)
  same_left x _ _ _ m p q = grind arith

  same_right : (xs : List A) (y : B) (zs : List C) (ts : List T) → AllZip (λ x z. M x y z) xs zs → AllZip P xs ts → AllByRecursion (Q y) ts → AllZip S zs ts
  same_right [] y [] [] m p q = tt
  same_right (x ∷ xs) y (z ∷ zs) (t ∷ ts) m p q = (f x y z t m.0 p.0 q.0, same_right xs y zs ts m.1 p.1 q.1)
  same_right _ y _ _ m p q = grind arith

  paired : (xs : List A) (ys : List B) (zs : List C) (ts : List T) → ArePairs M xs ys zs → AllZip P xs ts → AllZip Q ys ts → AllZip S zs ts
  paired [] [] [] [] m p q = tt
  paired (x ∷ xs) (y ∷ ys) (z ∷ zs) (t ∷ ts) m p q = (f x y z t m.0 p.0 q.0, paired xs ys zs ts m.1 p.1 q.1)
  paired _ _ _ _ m p q = grind arith

  pub each_both : (c : Column A) (d : Column B) (e : Column C) (ts : List T) → AreBoth M c d e → AreEach P c ts → AreEach Q d ts → AreEach S e ts
  each_both (column.Same x) (column.Same y) (column.Same z) (t ∷ ts) m p q = go (t ∷ ts) p q
    where
      go : (us : List T) → AllByRecursion (P x) us → AllByRecursion (Q y) us → AllByRecursion (S z) us
      go [] p q = tt
      go (u ∷ us) p q = (f x y z u m p.0 q.0, go us p.1 q.1)
  each_both (column.Same x) (column.Each v) (column.Each w) (t ∷ ts) m p q = same_left x v.items w.items (t ∷ ts) m p q
  each_both (column.Each u) (column.Same y) (column.Each w) (t ∷ ts) m p q = same_right u.items y w.items (t ∷ ts) m p q
  each_both (column.Each u) (column.Each v) (column.Each w) ts m p q = paired u.items v.items w.items ts m p q
  each_both _ _ _ _ m p q = grind arith

module _ {A B C : Type 0} {M : A → B → C → Type 0} {P : A → Type 0} {Q : B → Type 0} {S : C → Type 0} (f : (x : A) (y : B) (z : C) → M x y z → P x → Q y → S z) where
  pairs_all : (xs : List A) (ys : List B) (zs : List C) → ArePairs M xs ys zs → AllByRecursion P xs → AllByRecursion Q ys → AllByRecursion S zs
  pairs_all xs ys [] m p q = tt
  pairs_all (x ∷ xs) (y ∷ ys) (z ∷ zs) m p q = (f x y z m.0 p.0 q.0, pairs_all xs ys zs m.1 p.1 q.1)
  pairs_all _ _ (z ∷ zs) m p q = absurd m

  pub all_both : (c : Column A) (d : Column B) (e : Column C) → AreBoth M c d e → AllByRecursion P (results c) → AllByRecursion Q (results d)
      → AllByRecursion S (results e)
  all_both (column.Same x) (column.Same y) (column.Same z) m p q = (f x y z m p.0 q.0, tt)
  all_both (column.Same x) (column.Each v) (column.Each w) m p q = zip_all (λ y z k h. f x y z k p.0 h) v.items w.items m q
  all_both (column.Each u) (column.Same y) (column.Each w) m p q = zip_all (λ x z k h. f x y z k h q.0) u.items w.items m p
  all_both (column.Each u) (column.Each v) (column.Each w) m p q = pairs_all u.items v.items w.items m p q
  all_both _ _ _ m p q = absurd m

-- ---- one result for all

all_same : {A : Type 0} (R : A → Tree → Type 0) (x : A) → ((t : Tree) → R x t) → (ts : List Tree) → AllByRecursion (R x) ts
all_same R x r [] = tt
all_same R x r (t ∷ ts) = (r t, all_same R x r ts)

pub same_each : {A : Type 0} (R : A → Tree → Type 0) (x : A) (ts : List Tree) → HasSome ts → ((t : Tree) → R x t) → AreEach R (column.Same x) ts
same_each R x [] some r = absurd some
same_each R x (t ∷ ts) some r = all_same R x r (t ∷ ts)

-- related by another relation as well
pub each_as : {A B : Type 0} (R S : A → B → Type 0) → ((x : A) (t : B) → R x t → S x t) → (c : Column A) (ts : List B) → AreEach R c ts → AreEach S c ts
each_as R S f (column.Same x) [] r = absurd r
each_as R S f (column.Same x) (t ∷ ts) r = all_as (f x) (t ∷ ts) r
each_as R S f (column.Each v) ts r = zip_along R S f v.items ts r

-- ---- the results from an index on

same_from : {A B : Type 0} (R : A → B → Type 0) (x : A) (index : ℕ) (ts : List B) → AllByRecursion (R x) ts → AreFrom R (column.Same x) index ts
same_from R x index [] a = tt
same_from R x index (t ∷ ts) a = (x, refl, a.0, same_from R x (1 + index) ts a.1)

first_at : {A : Type 0} (x : A) (xs l : List A) (i : ℕ) → (x ∷ xs) ≡ drop i l → slice_get l i ≡ Some x
first_at x xs [] zero is = cc
first_at x xs [] (suc i) is = cc
first_at x xs (y ∷ l) zero is = cc
first_at x xs (y ∷ l) (suc i) is = first_at x xs l i is

others_at : {A : Type 0} (x : A) (xs l : List A) (i : ℕ) → (x ∷ xs) ≡ drop i l → xs ≡ drop (suc i) l
others_at x xs [] zero is = cc
others_at x xs [] (suc i) is = cc
others_at x xs (y ∷ l) zero is = cc
others_at x xs (y ∷ l) (suc i) is = others_at x xs l i is

one_more : (n : ℕ) → suc n ≡ 1 + n
one_more n = omega arith

zip_from : {A B : Type 0} (R : A → B → Type 0) (v : Vec A Global) (index : ℕ) (xs : List A) (ts : List B) → xs ≡ drop index v.items → AllZip R xs ts
    → AreFrom R (column.Each v) index ts
zip_from R v index [] [] is a = tt
zip_from R v index (x ∷ xs) (t ∷ ts) is a = (
  x,
  first_at x xs v.items index is,
  a.0,
  zip_from R v (1 + index) xs ts (others_at x xs v.items index is ∙ ap (λ n. drop n v.items) (one_more index)) a.1,
)
zip_from R v index _ _ is a = absurd a

pub each_from : {A B : Type 0} (R : A → B → Type 0) (c : Column A) (ts : List B) → AreEach R c ts → AreFrom R c 0 ts
each_from R (column.Same x) [] r = absurd r
each_from R (column.Same x) (t ∷ ts) r = same_from R x 0 (t ∷ ts) r
each_from R (column.Each v) ts r = zip_from R v 0 v.items ts refl r

-- the items of a part
pub from_append : {A B : Type 0} (R : A → B → Type 0) (c : Column A) (index : ℕ) (ts us : List B) → AreFrom R c index (ts ++ us)
    → AreFrom R c index ts × AreFrom R c (length ts + index) us
from_append {B = B} R c index [] us a = let none : index ≡ length {A = B} [] + index = omega arith in (tt, subst (λ n. AreFrom R c n us) none a)
from_append R c index (t ∷ ts) us a =
    let rest = from_append R c (1 + index) ts us a.3 in
    let next : length ts + (1 + index) ≡ length (t ∷ ts) + index = omega arith in
    ((a.0, a.1, a.2, rest.0), subst (λ n. AreFrom R c n us) next rest.1)

-- one place is that of one tree
pub located_once : (bytes : List ℕ) (spots : List Spot) (ts us : List Tree) → AllZip (Locates bytes) spots ts → AllZip (Locates bytes) spots us → ts ≡ us
located_once bytes [] [] [] a b = refl
located_once bytes (x ∷ xs) (t ∷ ts) (u ∷ us) a b = λ i. one_tree bytes x t u a.0 b.0 i ∷ located_once bytes xs ts us a.1 b.1 i
located_once bytes _ _ _ a b = grind arith

shifted : {A B : Type 0} (R : A → B → Type 0) (x : A) (us : List B) (m n : ℕ) → AreFrom R (column.Same x) m us → AreFrom R (column.Same x) n us
shifted R x [] m n a = tt
shifted R x (u ∷ us) m n a = (a.0, a.1, a.2, shifted R x us (1 + m) (1 + n) a.3)

-- from the next index on, which is a `usize`
pub from_next : {A B : Type 0} (R : A → B → Type 0) (c : Column A) (index next : ℕ) (ts : List B) → (index + 1 < 2 ^ 64 → next ≡ index + 1)
    → AreFrom R c (1 + index) ts → AreFrom R c next ts
from_next R c index next [] follows a = tt
from_next R (column.Same x) index next (t ∷ ts) follows a = shifted R x (t ∷ ts) (1 + index) next a
from_next R (column.Each v) index next (t ∷ ts) follows a =
    let within : index + 1 < 2 ^ 64 = omega (arith, slice_get_within v.items (1 + index) a.0 a.1, v.ok, v.small) in
    let is : 1 + index ≡ next = omega (arith, follows within) in
    subst (λ n. AreFrom R (column.Each v) n (t ∷ ts)) is a

-- from an index that is a `usize`
pub from_at : {A B : Type 0} (R : A → B → Type 0) (c : Column A) (index next : ℕ) (ts : List B) → (index < 2 ^ 64 → next ≡ index) → AreFrom R c index ts
    → AreFrom R c next ts
from_at R c index next [] follows a = tt
from_at R (column.Same x) index next (t ∷ ts) follows a = shifted R x (t ∷ ts) index next a
from_at R (column.Each v) index next (t ∷ ts) follows a =
    let within : index < 2 ^ 64 = omega (arith, slice_get_within v.items index a.0 a.1, v.ok, v.small) in
    subst (λ n. AreFrom R (column.Each v) n (t ∷ ts)) (sym (follows within)) a

-- no pair is left
pub pairs_end : {A B C : Type 0} (R : A → B → C → Type 0) (xs : List A) (ys : List B) → length ys ≡ 0 → ArePairs R xs ys []
pairs_end R [] [] none = tt
pairs_end R (x ∷ xs) [] none = tt
pairs_end R xs (y ∷ ys) none = absurd (omega (arith, none))

pub pairs_none : {A B C : Type 0} (R : A → B → C → Type 0) (xs : List A) (ys : List B) → length xs ≡ 0 → ArePairs R xs ys []
pairs_none R [] [] none = tt
pairs_none R [] (y ∷ ys) none = tt
pairs_none R (x ∷ xs) ys none = absurd (omega (arith, none))

-- ---- what calls of a function return

-- of a value that is not an error
pub if_ok_as : {A E : Type 0} {P Q : A → Type 0} (r : Result A E) → ((x : A) → P x → Q x) → IfOk r P → IfOk r Q
if_ok_as r f h = grind arith

-- what holds of each call at a reference holds of one that was made
pub called_at : {F T R : Type 0} {g : Shared F (Bor T × Unit {0}) R} {f : F} {x : T} {r : R} → FnReturnsAt g f x r → (Q : T → Type 0)
    → ((y : Bor T) → g.post f (y, tt) r → Q y.now) → Q x
called_at p Q k = subst Q p.shows (k p.shown p.says.met)

pub called : {F A R : Type 0} {g : Shared F A R} {f : F} {a : A} {r : R} → FnReturns g f a r → (Q : Type 0) → (g.post f a r → Q) → Q
called p Q k = k p.met

pub called_both : {F A B C : Type 0} {g : Shared F (Bor A × (Bor B × Unit {0})) C} {f : F} {x : A} {y : B} {r : C} → ReturnsAtBoth g f x y r
    → (Q : A → B → Type 0) → ((a : Bor A) (b : Bor B) → g.post f (a, (b, tt)) r → Q a.now b.now) → Q x y
called_both {y = y} p Q k = subst (λ a. Q a y) p.shows.0 (subst (λ b. Q p.first.now b) p.shows.1 (k p.first p.second p.says.met))
