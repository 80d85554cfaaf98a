-- Containers that are being written: if a part exceeds the limits, the whole does.
use Rattle.jsonb_doc.proofs.Common.{◌≡◌, inr, ℕ, ◌^◌, ◌≤◌, List, [], ◌∷◌, ◌++◌, length, map, sym, subst, arith, keys_of, values_of, Tree, text, pairs_of, Form, number_reader, IsContent, IsShort, HasShortParts, HasShortValues, AreShortKeys, IsTooLarge, IsWithinLimits, IsOutOfMemory, ◌or◌when◌, IsOutOfMemoryOrTooLarge, Error, TooLarge, HeaderKind, OpenContainer, Make, ExceedsLimits, IsOpen, Around, length-keys_of}
use Rattle.jsonb_doc.specs.declared.layout.HeaderKind.TheVariants.{Scalar}
use Rattle.jsonb_doc.specs.declared.layout.HeaderKind.TheVariants.{Object, Array}
use Rattle.jsonb_doc.specs.Private.Writer.{AreAround}
use Rattle.jsonb_doc.proofs.TreeLists.{count-trees_of, keys-pairs_of}
use Rattle.jsonb_doc.proofs.LimitLemmas.{well_among, size_within}

Member : Type 0
Member = List ℕ × Tree

-- ---- parts

-- each entry of a container within the limits is short, and within them itself
abbrev IsWell : Form → Tree → Type 0
IsWell form t = IsShort form t × HasShortParts form t

well_value : (form : Form) (ps : List (List ℕ × Tree)) (xs ys : List Tree) (t : Tree) → values_of ps ≡ xs ++ t ∷ ys → HasShortValues form (pairs_of ps) → IsWell form t
well_value form [] [] ys t is h = absurd (cc is)
well_value form [] (x ∷ xs) ys t is h = absurd (cc is)
well_value form (p ∷ ps) [] ys t is h = let same : p.1 ≡ t = cc is in subst (IsWell form) same (h.0, h.1)
well_value form (p ∷ ps) (x ∷ xs) ys t is h = well_value form ps xs ys t (cc is) h.2

-- a key of the pairs, or one of their values
well_pair : (form : Form) (ks : List (List ℕ)) (vs xs ys : List Tree) (t : Tree) → map text ks ++ vs ≡ xs ++ t ∷ ys → AreShortKeys ks
    → ((us : List Tree) → vs ≡ us ++ t ∷ ys → IsWell form t) → IsWell form t
well_pair form [] vs xs ys t is short go = go xs is
well_pair form (k ∷ ks) vs [] ys t is short go = let same : text k ≡ t = cc is in subst (IsWell form) same (grind arith, tt)
well_pair form (k ∷ ks) vs (x ∷ xs) ys t is short go = well_pair form ks vs xs ys t (cc is) short.1 go

pub part_well : (form : Form) (kind : HeaderKind) (n : ℕ) (xs ys : List Tree) (t whole : Tree) → Make kind n (xs ++ t ∷ ys) whole → HasShortParts form whole
    → IsWell form t
part_well form Scalar n xs ys t whole m h = absurd m
part_well form Array n xs ys t whole m h = well_among form xs ys t (subst (HasShortParts form) m.1 h).1
part_well form Object n xs ys t whole (ps, counted, rising, is, whole_is) h =
    let g = subst (HasShortParts form) whole_is h in
    well_pair form (keys_of ps) (values_of ps) xs ys t (sym is) (subst AreShortKeys (keys-pairs_of ps) g.1) (λ us same. well_value form ps us ys t same g.2)

-- a container has no more entries than a header counts
pub too_many : (form : Form) (kind : HeaderKind) (n : ℕ) (ts : List Tree) (t : Tree) → Make kind n ts t → 2 ^ 29 ≤ n → ExceedsLimits form t
too_many form kind n ts t h e = grind (arith, count-trees_of, keys-pairs_of, length-keys_of)

-- ---- through the containers around

-- a container is not a scalar
pub within_parts : (form : Form) (kind : HeaderKind) (n : ℕ) (ts : List Tree) (t : Tree) → Make kind n ts t → IsWithinLimits form t → HasShortParts form t
within_parts form kind n ts t h e = grind arith

module _ (form : Form) where
  -- the whole exceeds the limits if the tree does that is open in it
  pub around_passes : (before out : List ℕ) (around : Around) (kind : HeaderKind) (n : ℕ) (ts : List Tree) (t whole : Tree) → Make kind n ts t
      → AreAround form out around t whole → ExceedsLimits form t → IsTooLarge form whole
  around_passes before out [] kind n ts t whole m a passes = λ within. passes (within_parts form kind n ts t m (subst (IsWithinLimits form) (sym a.1) within))
  around_passes before out (o ∷ os) kind n ts t whole m (front, u, is_open, rest) passes =
      around_passes before front os is_open.kind is_open.total (is_open.made ++ t ∷ o.1) u whole is_open.makes rest
      (λ h. passes (part_well form is_open.kind is_open.total is_open.made o.1 t u is_open.makes h).1)

  -- so if the next entry is not a short one, or exceeds the limits itself
  pub coming_passes : (before out : List ℕ) (at : OpenContainer) (around : Around) (t : Tree) (coming : List Tree) (u whole : Tree)
      → IsOpen form before out at (t ∷ coming) u → AreAround form before around u whole → (IsShort form t → HasShortParts form t → ⊥)
      → IsTooLarge form whole
  coming_passes before out at around t coming u whole o a passes =
      around_passes before before around o.kind o.total (o.made ++ t ∷ coming) u whole o.makes a
      (λ h. let well = part_well form o.kind o.total o.made coming t u o.makes h in passes well.0 well.1)

-- a content that is too long for an entry is one of a tree that is
pub not_short : (form : Form) (t : Tree) (kind : ℕ) (content : List ℕ) → IsContent (number_reader form) t kind content → 2 ^ 28 ≤ length content
    → IsShort form t → ⊥
not_short form t kind content is long short = omega (arith, size_within form t kind content is, long, short)

pub refused : (form : Form) (t : Tree) (e : Error) → e ≡ TooLarge → IsTooLarge form t → IsOutOfMemoryOrTooLarge form t e
refused form t e is large = inr (is, large)

-- a container that fails, in a whole that fails with it
pub refused_open : (form : Form) (whole t : Tree) (e : Error) → (IsOutOfMemory or TooLarge when ExceedsLimits form t) e
    → (ExceedsLimits form t → IsTooLarge form whole)
    → IsOutOfMemoryOrTooLarge form whole e
refused_open form whole t e h k = search arith
