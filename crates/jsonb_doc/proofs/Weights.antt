-- How walks over nested containers end: a level outweighs all that can be within one of its items.
use Rattle.jsonb_doc.proofs.Common.{◌≡◌, ℕ, ◌+◌, ◌*◌, ◌^◌, ◌<◌, ◌≤◌, List, [], ◌∷◌, ◌++◌, ap, ◌∙◌, arith, reverse, reverse-append, pow-le-pow_right, mul-le-mul_right, mul-le, pow_more, one-le-pow}

-- greater by two than the number that any level yields
unfoldable pub base : ℕ
base = 2 ^ 65

base_big : (n : ℕ) → n < 2 ^ 64 → n + 2 ≤ base
unfolding base
base_big n h = omega (arith, h)

base_pos : 0 < base
unfolding base
base_pos = omega arith

power_pos : (m n : ℕ) → 0 < m → 1 ≤ m ^ n
power_pos m n h = one-le-pow n m h

-- with an item taken a level weighs less, by more than all in the item can weigh
shrunk : (m b c i r s j : ℕ) → 0 < m → c < b → s ≤ r → j < r → i + 2 ≤ m → (i + 1) * m ^ j + (c + 1) * m ^ s < (b + 1) * m ^ r
shrunk m b c i r s j pos fewer less inner few =
    let more : (i + 2) * m ^ j ≤ m * m ^ j = mul-le-mul_right (m ^ j) few in
    let up : m ^ (j + 1) ≤ m ^ r = pow-le-pow_right pos (omega arith) in
    let one : 1 ≤ m ^ j = power_pos m j pos in
    (grind (arith, mul-le (c + 1) (m ^ s) b (m ^ r) (omega arith) (pow-le-pow_right pos less), more, rw (pow_more m j) at up, one))

-- a level that yields at most `bound` items, each smaller than `room`
unfoldable pub weight_of : (bound room : ℕ) → ℕ
weight_of bound room = (bound + 1) * base ^ room

pub weight-pos : (bound room : ℕ) → 0 < weight_of bound room
unfolding weight_of
weight-pos bound room = grind (arith, mul-le, power_pos, base_pos)

-- what is left of a level and what is within one of its items weigh less than the level
pub inner_weighs : (bound bound' inner_bound room room' inner_room : ℕ) → bound' < bound → room' ≤ room → inner_room < room → inner_bound < 2 ^ 64
    → weight_of inner_bound inner_room + weight_of bound' room' < weight_of bound room
unfolding weight_of
inner_weighs bound bound' inner_bound room room' inner_room fewer less inner few =
    shrunk base bound bound' inner_bound room room' inner_room base_pos fewer less inner (base_big inner_bound few)

pub taken_weighs : (bound bound' room room' : ℕ) → bound' < bound → room' ≤ room → weight_of bound' room' < weight_of bound room
unfolding weight_of
taken_weighs bound bound' room room' h e = grind (arith, mul-le, pow-le-pow_right, base_pos, power_pos)

-- ---- the levels that a walk is within, which a `Vec` holds with the innermost last

abbrev pub weight_of_all : {A : Type 0} → (A → ℕ) → List A → ℕ
weight_of_all weight [] = 0
weight_of_all weight (x ∷ xs) = weight x + weight_of_all weight xs

module _ {A : Type 0} (weight : A → ℕ) where
  around_pushed : (around around' : List A) (x : A) → around' ≡ around ++ x ∷ []
      → weight_of_all weight (reverse around') ≡ weight x + weight_of_all weight (reverse around)
  around_pushed around around' x e = ap (λ xs. weight_of_all weight (reverse xs)) e ∙ ap (weight_of_all weight) (reverse-append around (x ∷ []))

  -- the measure of a walk falls if a level is left for what is within one of its items
  pub falls_inward : (level level' inner : A) (around around' : List A) → weight inner + weight level' < weight level → around' ≡ around ++ level' ∷ []
      → weight inner + weight_of_all weight (reverse around') < weight level + weight_of_all weight (reverse around)
  falls_inward level level' inner around around' less e = let is = around_pushed around around' level' e in omega (arith, is, less)

  -- it decreases if a level is done
  pub falls_outward : (level outer : A) (around around' : List A) → 0 < weight level → around ≡ around' ++ outer ∷ []
      → weight outer + weight_of_all weight (reverse around') < weight level + weight_of_all weight (reverse around)
  falls_outward level outer around around' pos e = let is = around_pushed around' around outer e in omega (arith, is, pos)
