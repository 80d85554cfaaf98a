-- No leaf is too large for a document.
use Rattle.jsonb_raw.proofs.Common.{◌≡◌, ◌<◌, ℕ, zero, suc, pos, Bool, true, false, List, [], ◌∷◌, length, arith, inl, inr, if◌then◌else◌, refl, slice_index_or, AllByRecursion, Tree, array, object, Trees, no_trees, tree, Pairs, no_pairs, pair, Form, canonical, IsOutOfMemory, ◌or◌when◌, IsShort, HasShortParts, HasShortElements, HasShortValues, IsWithinLimits, IsTooLarge, Fits, Error, TooLarge, Key, index, unquoted_name, Leaf, is_leaf, leaves_at, leaves, leaves_of_trees, leaves_of_pairs, behind, Any}
use Rattle.jsonb_raw.proofs.LeafPlaces.{AllByRecursion-append}

module _ (form : Form) where
  abbrev IsSmall : Leaf → Type 0
  IsSmall leaf = IsWithinLimits form leaf.1

  small_behind : (step : Key) (within : List Leaf) → AllByRecursion IsSmall within → AllByRecursion IsSmall (behind (step ∷ []) within)
  small_behind step [] h = tt
  small_behind step (leaf ∷ within) h = (h.0, small_behind step within h.1)

  small_at : (step : Key) (t : Tree) (within : List Leaf) → IsShort canonical t → AllByRecursion IsSmall within
      → AllByRecursion IsSmall (leaves_at false step t within)
  small_at step t within short h = small_behind step _ (go (is_leaf false t) refl)
    where
      go : (b : Bool) → is_leaf false t ≡ b → AllByRecursion IsSmall (if b then ([], t) ∷ [] else within)
      go true is = (grind (arith, is, short), tt)
      go false is = h

  mutual
    each_small : (t : Tree) → HasShortParts canonical t → AllByRecursion IsSmall (leaves false t)
    each_small (array ts) h = trees_small 0 ts h.1
    each_small (object ps) h = pairs_small ps h.2
    each_small _ h = tt

    trees_small : (n : ℕ) (ts : Trees) → HasShortElements canonical ts → AllByRecursion IsSmall (leaves_of_trees false n ts)
    trees_small n no_trees h = tt
    trees_small n (tree t ts) h =
        AllByRecursion-append IsSmall _ _ (small_at (index (pos n)) t (leaves false t) h.0 (each_small t h.1)) (trees_small (suc n) ts h.2)

    pairs_small : (ps : Pairs) → HasShortValues canonical ps → AllByRecursion IsSmall (leaves_of_pairs false ps)
    pairs_small no_pairs h = tt
    pairs_small (pair key t ps) h =
        AllByRecursion-append IsSmall _ _ (small_at (unquoted_name key) t (leaves false t) h.0 (each_small t h.1)) (pairs_small ps h.2)

  -- the leaves of a tree that fits are within the limits
  pub each_within_limits : (t : Tree) → Fits t → AllByRecursion (λ leaf. IsWithinLimits form leaf.1) (leaves false t)
  each_within_limits (array ts) fits = each_small (array ts) fits.1
  each_within_limits (object ps) fits = each_small (object ps) fits.1
  each_within_limits _ fits = tt

none_of : {X : Type 0} (P Q : X → Type 0) → ((x : X) → P x → Q x → ⊥) → (xs : List X) → AllByRecursion P xs → (k : ℕ) (x : X) → k < length xs
    → slice_index_or xs k x ≡ x → Q x → ⊥
none_of P Q both [] each k x inside is q = absurd (omega arith)
none_of P Q both (y ∷ xs) each zero x inside is q = both x (rw is at each.0) q
none_of P Q both (y ∷ xs) each (suc k) x inside is q = none_of P Q both xs each.1 k x (omega arith) is q

-- so what fails of the leaves of a tree that fits is memory
pub leaves_refused : (form : Form) (t : Tree) (e : Error) → Fits t
    → (IsOutOfMemory or TooLarge when Any (λ leaf. IsTooLarge form leaf.1) (leaves false t)) e → IsOutOfMemory e
leaves_refused form t e fits (inl memory) = memory
leaves_refused form t e fits (inr (same, (k, leaf, inside, is, large))) =
    absurd (none_of (λ (l : Leaf). IsWithinLimits form l.1) (λ (l : Leaf). IsTooLarge form l.1) (λ l within large. large within) (leaves false t)
    (each_within_limits form t fits) k leaf inside is large)
