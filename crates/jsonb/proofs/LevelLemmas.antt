-- The items below an item, by its children.
use Rattle.jsonb.proofs.Common.{◌≡◌, ℕ, ◌+◌, true, false, List, [], ◌∷◌, ◌++◌, flat_map, Option, Some, None, refl, ap, ◌∙◌, append-nil, arith, if◌then◌else◌, nat_tests, Tree, Trees, Pairs, array, object, no_trees, no_pairs, pair, elements, values, children_of, at_level, Levels, LevelEnd, level, last_level, is_shut, answer_at, taken_item, preorder, preorder_elements, preorder_values}
use Rattle.jsonb_doc.specs.Tree as tree

-- ---- below a level whose children are not visited, none is selected

shut_level : (end : Option LevelEnd) (start n : ℕ) → (at_level end start n).1 ≡ false
    → ((at_level end start (n + 1)).0 ≡ false) × ((at_level end start (n + 1)).1 ≡ false)
shut_level None start n h = (grind (arith, nat_tests), grind (arith, nat_tests))
shut_level (Some (level last)) start n h = (grind (arith, nat_tests), grind (arith, nat_tests))
shut_level (Some last_level) start n h = cc

pub shut_below : (levels : Option Levels) (n : ℕ) → (answer_at levels n).1 ≡ false
    → ((answer_at levels (n + 1)).0 ≡ false) × ((answer_at levels (n + 1)).1 ≡ false)
shut_below levels n h = grind (arith, shut_level)

-- an item is taken if its level is selected
pub taken_is : (levels : Option Levels) (n : ℕ) (t : Tree) → taken_item levels n t ≡ (if (answer_at levels n).0 then t ∷ [] else [])
taken_is None n t = refl
taken_is (Some levels) n t = refl

module _ (levels : Option Levels) where
  elements-is : (n : ℕ) (ts : Trees) → preorder_elements levels n ts ≡ flat_map (preorder levels n) (elements ts)
  elements-is n no_trees = refl
  elements-is n (tree.tree t ts) = ap (λ l. preorder levels n t ++ l) (elements-is n ts)

  values-is : (n : ℕ) (ps : Pairs) → preorder_values levels n ps ≡ flat_map (preorder levels n) (elements (values ps))
  values-is n no_pairs = refl
  values-is n (pair key t ps) = ap (λ l. preorder levels n t ++ l) (values-is n ps)

  -- where there are children
  pub preorder-entered : (n : ℕ) (t : Tree) (ts : List Tree) → children_of t ≡ Some ts
      → preorder levels n t ≡ taken_item levels n t ++ flat_map (preorder levels (n + 1)) ts
  preorder-entered n t ts is = grind (arith, elements-is, values-is)

  -- where there are none
  pub preorder-leaf : (n : ℕ) (t : Tree) → children_of t ≡ None → preorder levels n t ≡ taken_item levels n t
  preorder-leaf n t is = grind (arith)

  -- an item of a level that is not selected
  untaken : (n : ℕ) (t : Tree) → (answer_at levels n).0 ≡ false → taken_item levels n t ≡ []
  untaken n t h = taken_is levels n t ∙ ap (λ b. if b then t ∷ [] else []) h

  -- where neither this level nor one below it is selected
  mutual
    nothing : (n : ℕ) (t : Tree) → (answer_at levels n).0 ≡ false → (answer_at levels n).1 ≡ false → preorder levels n t ≡ []
    nothing n (array us) h k = ap (λ l. l ++ preorder_elements levels (n + 1) us) (untaken n (array us) h) ∙ nothing_below n us k
    nothing n (object ps) h k = ap (λ l. l ++ preorder_values levels (n + 1) ps) (untaken n (object ps) h) ∙ no_value_below n ps k
    nothing n t h k = untaken n t h

    pub nothing_below : (n : ℕ) (ts : Trees) → (answer_at levels n).1 ≡ false → preorder_elements levels (n + 1) ts ≡ []
    nothing_below n no_trees k = refl
    nothing_below n (tree.tree t ts) k =
        let s = shut_below levels n k in
        ap (λ l. l ++ preorder_elements levels (n + 1) ts) (nothing (n + 1) t s.0 s.1) ∙ nothing_below n ts k

    pub no_value_below : (n : ℕ) (ps : Pairs) → (answer_at levels n).1 ≡ false → preorder_values levels (n + 1) ps ≡ []
    no_value_below n no_pairs k = refl
    no_value_below n (pair key t ps) k =
        let s = shut_below levels n k in
        ap (λ l. l ++ preorder_values levels (n + 1) ps) (nothing (n + 1) t s.0 s.1) ∙ no_value_below n ps k

  -- where the level below is shut
  shut-item : (n : ℕ) (t : Tree) → is_shut levels n ≡ true → preorder levels n t ≡ []
  shut-item n t h = grind (arith, nothing)

  shut-elements : (n : ℕ) (ts : Trees) → is_shut levels n ≡ true → preorder_elements levels n ts ≡ []
  shut-elements n no_trees h = refl
  shut-elements n (tree.tree t ts) h = ap (λ l. l ++ preorder_elements levels n ts) (shut-item n t h) ∙ shut-elements n ts h

  shut-values : (n : ℕ) (ps : Pairs) → is_shut levels n ≡ true → preorder_values levels n ps ≡ []
  shut-values n no_pairs h = refl
  shut-values n (pair key t ps) h = ap (λ l. l ++ preorder_values levels n ps) (shut-item n t h) ∙ shut-values n ps h

  pub preorder-shut : (n : ℕ) (t : Tree) → is_shut levels (n + 1) ≡ true → preorder levels n t ≡ taken_item levels n t
  preorder-shut n t h = grind (arith, shut-elements, append-nil, shut-values)
