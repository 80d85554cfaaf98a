-- Which trees are arrays or objects, and what is made of them.
use Rattle.jsonb_raw.proofs.Common.{◌≡◌, ◌⊎◌, inl, inr, ℕ, List, ◌∷◌, Global, subst, Option, Some, refl, sym, ap, ◌∙◌, string_bytes, Any, arith, values_of, Tree, object, Pairs, Form, IsOutOfMemoryOrTooLarge, IsTooLarge, OutOfMemory, TooLarge, IsPairsOf, Error, PairIter, OwnedJsonb, IsPairOf, suc, length, array, Trees, no_trees, tree, elements, count, Decodes, HasElementsLeft, IsElementsOf, ElementIter}
use Rattle.std.proofs.Common.{String}
use Rattle.jsonb_raw.proofs.RunLemmas.{all_values}
use Rattle.jsonb_raw.proofs.AnswerLemmas.{Made, any_here, one_of_whole}

-- a tree with an iterator over pairs is an object
pub object_of : (form : Form) (t : Tree) (found : Option PairIter) (it : PairIter) → found ≡ Some it → IsPairsOf form t found → (ps : Pairs) × (t ≡ object ps)
object_of form t found it h e = grind arith

-- ---- documents of the values

-- if a document of the next value fails, those of all values are
pub pair_refused_in_list : (form : Form) (made : List (String Global × OwnedJsonb)) (key : List ℕ) (t : Tree) (left whole : List (List ℕ × Tree)) (e : Error)
    → Made (IsPairOf string_bytes form) made ((key, t) ∷ left) whole → IsOutOfMemoryOrTooLarge form t e
    → (e ≡ OutOfMemory) ⊎ ((e ≡ TooLarge) × Any (IsTooLarge form) (values_of whole))
pair_refused_in_list form made key t left whole e m (inl memory) = inl memory
pair_refused_in_list form made key t left whole e m (inr (is, large)) =
    inr (
      is,
      subst (Any (IsTooLarge form)) (sym (all_values m.front ((key, t) ∷ left)) ∙ ap values_of m.joined)
          (any_here (IsTooLarge form) (values_of m.front) (values_of left) t large),
    )

-- a tree with an iterator over elements is an array
pub array_of : (form : Form) (t : Tree) (found : Option ElementIter) (it : ElementIter) → found ≡ Some it → IsElementsOf form t found
    → (ts : Trees) × (t ≡ array ts) × HasElementsLeft form it ts
array_of form t found it h e = grind arith

pub length-elements : (ts : Trees) → count ts ≡ length (elements ts)
length-elements no_trees = refl
length-elements (tree t ts) = ap suc (length-elements ts)

-- if a document of the next element fails, those of all elements are
pub element_refused_in_list : (form : Form) (made : List OwnedJsonb) (t : Tree) (left whole : List Tree) (e : Error)
    → Made (Decodes form) made (t ∷ left) whole → IsOutOfMemoryOrTooLarge form t e → (e ≡ OutOfMemory) ⊎ ((e ≡ TooLarge) × Any (IsTooLarge form) whole)
element_refused_in_list form made t left whole e m (inl memory) = inl memory
element_refused_in_list form made t left whole e m (inr (is, large)) = inr (is, one_of_whole (Decodes form) (IsTooLarge form) made t left whole large m)
