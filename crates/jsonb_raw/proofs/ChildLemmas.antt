-- The children of a list, what the iterator over their positions gives, and what calls on children return.
use Rattle.jsonb_raw.proofs.Common.{Bool, true, false, ◌∙◌, false≢true, slice_get_past, ◌≡◌, ℕ, zero, suc, ◌<◌, pos, List, [], ◌∷◌, length, drop, Option, Some, None, Result, Ok, Err, IsOkAnd, unwrap_or, refl, arith, slice_get, sym, option_and_then, nat_tests, Tree, SameOption, TakesSpot, Locates, HasSpotsLeft, Error, Spot, SpotIter, index_position, ◌↔◌, ℤ, IsTrue, map, ap, to_ascii_lowercase, bytes_eq-Decides, str_eq_ignore_ascii_case, array, Trees, elements, trees_of-elements, without_index, drop-drop, add-one}

-- at first all children are left
pub all_left : (bytes : List ℕ) (it : SpotIter) (o : Option (List Tree)) → SameOption (HasSpotsLeft bytes) (Some it) o
    → HasSpotsLeft bytes it (unwrap_or o [])
all_left bytes it o h = grind arith

-- the trees are a first one, whose spot was given, and the rest, which is left
pub record FirstLeft (bytes : List ℕ) (ts : List Tree) (r : Result Spot Error) (after : SpotIter) : Type 0 where
  pub first : Tree
  pub rest : List Tree
  pub split : ts ≡ first ∷ rest
  pub marks : IsOkAnd r (λ spot. Locates bytes spot first)
  pub left : HasSpotsLeft bytes after rest

pub first_left : (bytes : List ℕ) (ts : List Tree) (r : Result Spot Error) (after : SpotIter) → TakesSpot bytes ts (Some r) after
    → FirstLeft bytes ts r after
first_left bytes ts r after h = grind arith

-- the child at a position, of those that are left
pub here : (ts : List Tree) (n : ℕ) (first : Tree) (rest : List Tree) (wanted : Option Tree) → ts ≡ first ∷ rest → n ≡ 0
    → slice_get ts n ≡ wanted → wanted ≡ Some first
here ts n first rest wanted split now same = sym (rw (split, now) at same)

pub nowhere : (ts : List Tree) (n : ℕ) (wanted : Option Tree) → ts ≡ [] → slice_get ts n ≡ wanted → wanted ≡ None
nowhere ts n wanted none same = sym (rw none at same)

-- the first after that many is the one at that position
pub first_behind : (ts : List Tree) (n : ℕ) → slice_get (drop n ts) 0 ≡ slice_get ts n
first_behind ts zero = refl
first_behind [] (suc n) = refl
first_behind (t ∷ ts) (suc n) = first_behind ts n

-- the element before what is left of a list
pub record SplitAt (all : List Tree) (k : ℕ) (first : Tree) (rest : List Tree) : Type 0 where
  pub inside : k < length all
  pub at : slice_get all k ≡ Some first
  pub behind : drop (suc k) all ≡ rest

pub split_at : (all : List Tree) (k : ℕ) (first : Tree) (rest : List Tree) → drop k all ≡ first ∷ rest → SplitAt all k first rest
split_at [] zero first rest e = cc
split_at [] (suc k) first rest e = cc
split_at (t ∷ ts) zero first rest e = record { inside = omega arith; at = cc; behind = cc }
split_at (t ∷ ts) (suc k) first rest e = let s = split_at ts k first rest e in record { inside = omega arith; at = s.at; behind = s.behind }

pub first_marked : {bytes : List ℕ} {ts : List Tree} {r : Result Spot Error} {after : SpotIter} (f : FirstLeft bytes ts r after) (spot : Spot)
    → r ≡ Ok spot → Locates bytes spot f.first
first_marked {bytes} {ts} {r} {after} f spot e = rw e at f.marks

-- if a tree is left, its spot is given
pub first_given : {bytes : List ℕ} {ts : List Tree} {r : Result Spot Error} {after : SpotIter} (f : FirstLeft bytes ts r after) (error : Error)
    → r ≡ Err error → ⊥
first_given {bytes} {ts} {r} {after} f error e = rw e at f.marks

-- ---- an index, from the front or from the end

pub from_front : (ts : List Tree) (n : ℕ)
    → option_and_then (λ n. slice_get ts n) (index_position (length ts) (pos n)) ≡ slice_get ts n
from_front ts n = grind (arith, nat_tests, slice_get_past ts n)

pub no_such_element : (ts : List Tree) (i : ℕ) → drop i ts ≡ [] → slice_get ts i ≡ None
no_such_element ts i none = nowhere (drop i ts) 0 _ none (first_behind ts i)

-- ---- an element less

pub drop_one_more : {A : Type 0} (n : ℕ) (xs : List A) → drop 1 (drop n xs) ≡ drop (suc n) xs
drop_one_more n xs = rw (drop-drop 1 n xs, add-one)

pub without_none : (i : ℤ) (ts : Trees) → index_position (length (elements ts)) i ≡ None → without_index i (array ts) ≡ Some (array ts)
without_none i ts is = rw is (ap (λ us. Some (array us)) (trees_of-elements ts))

-- a test of the code decides whether strings are the same
pub decided : (a b : List ℕ) (r : Bool) → (IsTrue r ↔ (map to_ascii_lowercase a ≡ map to_ascii_lowercase b)) → str_eq_ignore_ascii_case a b ≡ r
decided a b r h = grind (arith, bytes_eq-Decides)

-- a root that is not a scalar
pub not_scalar : {A : Type 0} (told is : Bool) → told ≡ is → told ≡ false → is ≡ true → A
not_scalar told is same other scalar = absurd (false≢true (sym other ∙ same ∙ scalar))
