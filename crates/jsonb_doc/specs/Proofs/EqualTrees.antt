-- Equality by value as a relation, part by part.
use Rattle.std.specs.Prelude.{◌≡◌}
use Rattle.std.specs.declared.cmp.Ordering.TheVariants.{Equal}
use Rattle.jsonb_doc.specs.Number.{number_cmp}
use Rattle.jsonb_doc.specs.Tree.{Tree, null, boolean, number, text, extension, array, object, Trees, no_trees, tree, Pairs, no_pairs, pair}

-- Holds if both have the same shape, with numbers of one exact value.
abbrev mutual
  pub IsEqual : Tree → Tree → Type 0
  IsEqual null null = Unit {0}
  IsEqual (boolean a) (boolean b) = a ≡ b
  IsEqual (number m) (number n) = number_cmp m n ≡ Equal
  IsEqual (text a) (text b) = a ≡ b
  IsEqual (extension a) (extension b) = a ≡ b
  IsEqual (array ts) (array us) = AreEqual ts us
  IsEqual (object ps) (object qs) = PairsAreEqual ps qs
  IsEqual _ _ = ⊥

  pub AreEqual : Trees → Trees → Type 0
  AreEqual no_trees no_trees = Unit {0}
  AreEqual (tree t ts) (tree u us) = IsEqual t u × AreEqual ts us
  AreEqual _ _ = ⊥

  pub PairsAreEqual : Pairs → Pairs → Type 0
  PairsAreEqual no_pairs no_pairs = Unit {0}
  PairsAreEqual (pair k t ps) (pair l u qs) = (k ≡ l) × IsEqual t u × PairsAreEqual ps qs
  PairsAreEqual _ _ = ⊥
