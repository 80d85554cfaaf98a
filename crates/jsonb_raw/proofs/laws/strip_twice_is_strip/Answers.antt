use Rattle.jsonb_raw.proofs.Lemmas.{◌≡◌, ℕ, Bool, List, cond, refl, ap, ◌∙◌, arith, Tree, array, object, Trees, no_trees, tree, Pairs, no_pairs, pair, is_null, strip, strip_trees, strip_pairs}
use Rattle.jsonb_raw.proofs.laws.strip_twice_is_strip.Goals as goal

strip_pair : (b : Bool) (k : List ℕ) (t : Tree) (ps : Pairs) → is_null t ≡ b → strip (strip t) ≡ strip t → strip_pairs (strip_pairs ps) ≡ strip_pairs ps
    → strip_pairs (cond b (strip_pairs ps) (pair k (strip t) (strip_pairs ps))) ≡ cond b (strip_pairs ps) (pair k (strip t) (strip_pairs ps))
strip_pair b k t ps h e k' = grind arith

mutual
  pub strip_twice : (t : Tree) → strip (strip t) ≡ strip t
  strip_twice (array ts) = ap (λ us. array us) (strip_trees_twice ts)
  strip_twice (object ps) = ap (λ qs. object qs) (strip_pairs_twice ps)
  strip_twice _ = refl

  strip_trees_twice : (ts : Trees) → strip_trees (strip_trees ts) ≡ strip_trees ts
  strip_trees_twice no_trees = refl
  strip_trees_twice (tree t ts) =
      ap (λ u. tree u (strip_trees (strip_trees ts))) (strip_twice t) ∙ ap (λ us. tree (strip t) us) (strip_trees_twice ts)

  strip_pairs_twice : (ps : Pairs) → strip_pairs (strip_pairs ps) ≡ strip_pairs ps
  strip_pairs_twice no_pairs = refl
  strip_pairs_twice (pair k t ps) = strip_pair (is_null t) k t ps refl (strip_twice t) (strip_pairs_twice ps)

pub returns : goal.returns
returns c = strip_twice
