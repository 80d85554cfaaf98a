-- The strings of a tree, and the results of a closure on them.
use Rattle.std.specs.Prelude.{ℕ, Bool, true, false, List, [], ◌∷◌, ◌++◌, All, Any, MatchBool}
use Rattle.std.specs.Borrow.{Bor}
use Rattle.std.specs.Fn.{Shared, FnReturnsAt}
use Rattle.jsonb_doc.specs.Tree.{Tree, text, array, object, Trees, no_trees, tree, Pairs, no_pairs, pair}

-- The strings at every depth, a root string among them, and the keys of objects.
abbrev mutual
  pub texts : Tree → List (List ℕ)
  texts (text s) = s ∷ []
  texts (array ts) = texts_of_trees ts
  texts (object ps) = texts_of_pairs ps
  texts _ = []

  pub texts_of_trees : Trees → List (List ℕ)
  texts_of_trees no_trees = []
  texts_of_trees (tree t ts) = texts t ++ texts_of_trees ts

  pub texts_of_pairs : Pairs → List (List ℕ)
  texts_of_pairs no_pairs = []
  texts_of_pairs (pair key t ps) = key ∷ (texts t ++ texts_of_pairs ps)

-- Holds if the result is true only if a call on one of the strings returned true, and false only if a call on each of
-- them returned false.
abbrev pub Tells : {F : Type 0} → Shared F (Bor (List ℕ) × Unit {0}) Bool → F → List (List ℕ) → Bool → Type 0
Tells calls func ss answer =
    MatchBool answer (Any (λ s. FnReturnsAt calls func s true) ss) (All (λ s. FnReturnsAt calls func s false) ss)
