-- The parts of containers as lists, and back.
use Rattle.jsonb_doc.proofs.Common.{◌≡◌, ℕ, suc, List, [], ◌∷◌, length, refl, ap, keys_of, Tree, Trees, no_trees, tree, Pairs, no_pairs, pair, elements, count, keys, trees_of, members, pairs_of}

pub count-trees_of : (ts : List Tree) → count (trees_of ts) ≡ length ts
count-trees_of [] = refl
count-trees_of (t ∷ ts) = ap suc (count-trees_of ts)

pub elements-trees_of : (ts : List Tree) → elements (trees_of ts) ≡ ts
elements-trees_of [] = refl
elements-trees_of (t ∷ ts) = ap (λ us. t ∷ us) (elements-trees_of ts)

pub trees_of-elements : (ts : Trees) → trees_of (elements ts) ≡ ts
trees_of-elements no_trees = refl
trees_of-elements (tree t ts) = ap (tree t) (trees_of-elements ts)

pub members-pairs_of : (ps : List (List ℕ × Tree)) → members (pairs_of ps) ≡ ps
members-pairs_of [] = refl
members-pairs_of (p ∷ ps) = ap (λ qs. p ∷ qs) (members-pairs_of ps)

pub pairs_of-members : (ps : Pairs) → pairs_of (members ps) ≡ ps
pairs_of-members no_pairs = refl
pairs_of-members (pair key t ps) = ap (pair key t) (pairs_of-members ps)

pub keys-pairs_of : (ps : List (List ℕ × Tree)) → keys (pairs_of ps) ≡ keys_of ps
keys-pairs_of [] = refl
keys-pairs_of (p ∷ ps) = ap (λ ks. p.0 ∷ ks) (keys-pairs_of ps)

pub keys_of-members : (ps : Pairs) → keys_of (members ps) ≡ keys ps
keys_of-members no_pairs = refl
keys_of-members (pair key t ps) = ap (λ ks. key ∷ ks) (keys_of-members ps)
