-- Equality of values part by part, which the order of trees agrees with.
use Rattle.jsonb_doc.proofs.Common.{common_steps, ◌≡◌, ℕ, ◌^◌, ◌≤◌, ℤ, sym, ap, ◌∙◌, arith, Equal, eq_by_cmp, is_eq, int_eq, one-le-pow, tied_itself, alike_right, Variant, decimal64, number_cmp, number_from, number_cmp_total, int_cmp_scaled, short_value, short_parts, number_parts, number_view, Number, ShortNumber, int_cmp, Bool, refl, ap₂, ordering_then, nat_cmp-equal, nat_cmp_refl, extension_payload, IsInRange, AreInRange, ValuesAreInRange, Tree, null, boolean, number, text, extension, array, object, Trees, tree, Pairs, pair, rank, tree_cmp, trees_cmp, pairs_cmp, IsEqual, AreEqual, PairsAreEqual}
use Rattle.jsonb_doc.specs.Number.{Number as Number'}
use Rattle.jsonb_doc.proofs.ExtensionsRead.{extension_back}
use Rattle.jsonb_doc.proofs.ScalarLemmas.{some_injective}
use Rattle.jsonb_doc.proofs.Basics.{both_equal, same_from_bytes_cmp, bytes_cmp_refl}

-- a number of these parts has their value, for each variant of zero
same_value : (variant : Variant) (whole : ℤ) (scale : ℕ)
    → number_cmp (number_from variant whole scale) (record { variant = variant; whole = whole; scale = scale }) ≡ Equal
same_value variant whole scale = grind (arith, int_cmp, tied_itself)

-- numbers compare as those of the same values do
alike : (a a' b b' : Number') → number_cmp a a' ≡ Equal → number_cmp b b' ≡ Equal → number_cmp a b ≡ number_cmp a' b'
alike a a' b b' e f = number_cmp_total.congr a a' b e ∙ alike_right number_cmp_total b b' a' f

-- numbers of one scale compare as their digits do
pub digits_tell : (v w : Variant) (a b : ℤ) (scale : ℕ)
    → int_cmp a b ≡ number_cmp (record { variant = v; whole = a; scale = scale }) (record { variant = w; whole = b; scale = scale })
digits_tell v w a b scale = sym (int_cmp_scaled a b (10 ^ scale) (let h : 1 ≤ 10 ^ scale = one-le-pow scale 10 (omega arith) in omega arith))

-- decimals of one scale compare as their digits do
pub decimals_tied : (a b : ℤ) (scale : ℕ)
    → int_eq a b ≡ eq_by_cmp number_cmp (number_from decimal64 a scale) (number_from decimal64 b scale)
decimals_tied a b scale =
    let m : Number' = record { variant = decimal64; whole = a; scale = scale } in
    let n : Number' = record { variant = decimal64; whole = b; scale = scale } in
    let same = alike (number_from decimal64 a scale) m (number_from decimal64 b scale) n (same_value decimal64 a scale)
    (same_value decimal64 b scale) in
    ap is_eq (digits_tell decimal64 decimal64 a b scale ∙ sym same)

same_short : (n : ShortNumber) → number_cmp (short_value n) (short_parts n) ≡ Equal
same_short n = grind (arith, same_value)

-- numbers whose digits are stored in at most 64 bits compare as their parts do
pub short_cmp : (m n : ShortNumber) → number_cmp (short_value m) (short_value n) ≡ number_cmp (short_parts m) (short_parts n)
short_cmp m n = alike (short_value m) (short_parts m) (short_value n) (short_parts n) (same_short m) (same_short n)

-- a number whose digits are stored in at most 64 bits compares with another as its parts do
pub short_number_cmp : (m : ShortNumber) (n : Number) → number_cmp (short_value m) (number_view n) ≡ number_cmp (short_parts m) (number_parts n)
short_number_cmp m n = grind (arith, common_steps, number_cmp_total, same_short, same_value)

-- numbers compare as those of their trees do
pub number_cmp-number_view : (m n : Number) → number_cmp (number_view m) (number_view n) ≡ number_cmp (number_parts m) (number_parts n)
number_cmp-number_view m n =
    let same = λ (n : Number). same_value (number_parts n).variant (number_parts n).whole (number_parts n).scale in
    alike (number_view m) (number_parts m) (number_view n) (number_parts n) (same m) (same n)

pub equal_in_trees : (m n : Number) → eq_by_cmp number_cmp (number_view m) (number_view n) ≡ eq_by_cmp number_cmp (number_parts m) (number_parts n)
equal_in_trees m n = ap is_eq (number_cmp-number_view m n)

rank_boolean : (b : Bool) → (2 ≤ rank (boolean b)) × (rank (boolean b) ≤ 3)
rank_boolean b = grind arith

same_rank_boolean : (a b : Bool) → rank (boolean a) ≡ rank (boolean b) → a ≡ b
same_rank_boolean a b h = grind arith

mutual
  pub equal_from_tree_cmp : (t u : Tree) → IsInRange t → IsInRange u → tree_cmp t u ≡ Equal → IsEqual t u
  equal_from_tree_cmp null null h k e = tt
  equal_from_tree_cmp (boolean a) (boolean b) h k e = same_rank_boolean a b (nat_cmp-equal (rank (boolean a)) (rank (boolean b)) e)
  equal_from_tree_cmp (number m) (number n) h k e = e
  equal_from_tree_cmp (text a) (text b) h k e = same_from_bytes_cmp a b e
  equal_from_tree_cmp (extension a) (extension b) h k e =
      grind (arith, some_injective, extension_back, same_from_bytes_cmp (extension_payload a) (extension_payload b) e)
  equal_from_tree_cmp (array ts) (array us) h k e = equal_from_trees_cmp ts us h k e
  equal_from_tree_cmp (object ps) (object qs) h k e = equal_from_pairs_cmp ps qs h.1 k.1 e
  equal_from_tree_cmp t u h k e = absurd (let r : rank t ≡ rank u = nat_cmp-equal (rank t) (rank u) e in omega (arith, rank_boolean))

  pub equal_from_trees_cmp : (ts us : Trees) → AreInRange ts → AreInRange us → trees_cmp ts us ≡ Equal → AreEqual ts us
  equal_from_trees_cmp (tree t ts) (tree u us) h k e = grind (arith, equal_from_trees_cmp ts us h.1 k.1, equal_from_tree_cmp t u h.0 k.0, both_equal)
  equal_from_trees_cmp _ _ h k e = grind arith

  pub equal_from_pairs_cmp : (ps qs : Pairs) → ValuesAreInRange ps → ValuesAreInRange qs → pairs_cmp ps qs ≡ Equal → PairsAreEqual ps qs
  equal_from_pairs_cmp (pair key t ps) (pair other u qs) h k e =
      grind (arith, equal_from_pairs_cmp ps qs h.1 k.1, equal_from_tree_cmp t u h.0 k.0, both_equal, same_from_bytes_cmp)
  equal_from_pairs_cmp _ _ h k e = grind arith

mutual
  pub tree_cmp-equal : (t u : Tree) → IsEqual t u → tree_cmp t u ≡ Equal
  tree_cmp-equal null null h = refl
  tree_cmp-equal (boolean a) (boolean b) h = rw h (nat_cmp_refl (rank (boolean b)))
  tree_cmp-equal (number m) (number n) h = h
  tree_cmp-equal (text a) (text b) h = rw h (bytes_cmp_refl b)
  tree_cmp-equal (extension a) (extension b) h = grind (arith, bytes_cmp_refl)
  tree_cmp-equal (array ts) (array us) h = trees_cmp-equal ts us h
  tree_cmp-equal (object ps) (object qs) h = pairs_cmp-equal ps qs h
  tree_cmp-equal t u h = absurd h

  pub trees_cmp-equal : (ts us : Trees) → AreEqual ts us → trees_cmp ts us ≡ Equal
  trees_cmp-equal (tree t ts) (tree u us) h = ap₂ ordering_then (tree_cmp-equal t u h.0) (trees_cmp-equal ts us h.1)
  trees_cmp-equal _ _ h = grind arith

  pub pairs_cmp-equal : (ps qs : Pairs) → PairsAreEqual ps qs → pairs_cmp ps qs ≡ Equal
  pairs_cmp-equal (pair k t ps) (pair l u qs) h = grind (arith, pairs_cmp-equal ps qs h.2, tree_cmp-equal t u h.1, bytes_cmp_refl)
  pairs_cmp-equal _ _ h = grind arith
