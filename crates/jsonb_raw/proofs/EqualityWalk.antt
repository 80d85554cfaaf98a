-- A walk over levels that spells equality keys: what is written, and then the keys of what each level has left, the
-- innermost first, is the whole.
use Rattle.jsonb_raw.proofs.Common.{◌≡◌, ◌++◌, ℕ, List, [], ◌∷◌, Some, None, refl, sym, ap, ◌∙◌, append_assoc, append-nil, length, arith, reverse, Tree, Trees, Pairs, Form, text_bytes, equality_key, equality_keys_of_trees, equality_keys_of_pairs, equality_start, equality_part_start, EntryPrefix, parts, parts_of_trees, parts_of_pairs, ChildCursor}
use Rattle.jsonb_raw.proofs.LevelLemmas.{HavePartsLeft, as_many_around}

-- ---- the key of a tree by its parts

abbrev pub part_key : EntryPrefix → List ℕ
part_key (None, t) = equality_key t
part_key (Some k, t) = (5 ∷ text_bytes k) ++ equality_key t

abbrev pub keys_of_parts : List EntryPrefix → List ℕ
keys_of_parts [] = []
keys_of_parts (p ∷ ps) = part_key p ++ keys_of_parts ps

trees_keys : (ts : Trees) → keys_of_parts (parts_of_trees ts) ≡ equality_keys_of_trees ts
trees_keys Trees.no_trees = refl
trees_keys (Trees.tree t ts) = ap (λ x. equality_key t ++ x) (trees_keys ts)

pairs_keys : (ps : Pairs) → keys_of_parts (parts_of_pairs ps) ≡ equality_keys_of_pairs ps
pairs_keys Pairs.no_pairs = refl
pairs_keys (Pairs.pair k t ps) = cc (append_assoc (5 ∷ text_bytes k) (equality_key t) (keys_of_parts (parts_of_pairs ps)), pairs_keys ps)

key_split : (t : Tree) → equality_key t ≡ equality_start t ++ keys_of_parts (parts t)
key_split t = grind (arith, append-nil, trees_keys, pairs_keys)

-- ---- what is left at levels, the innermost first

abbrev pub keys_of_levels : List (List EntryPrefix) → List ℕ
keys_of_levels [] = []
keys_of_levels (ps ∷ ls) = keys_of_parts ps ++ keys_of_levels ls

pub walk_begun : (t : Tree) (old out : List ℕ) → out ≡ old ++ equality_start t → out ++ keys_of_levels (parts t ∷ []) ≡ old ++ equality_key t
walk_begun t old out e = cc (append-nil (keys_of_parts (parts t)), e, append_assoc old (equality_start t) (keys_of_parts (parts t)), key_split t)

-- a part's start is written, and its own parts are left within
pub part_begun : (p : EntryPrefix) (ps : List EntryPrefix) (ls : List (List EntryPrefix)) (out out' whole : List ℕ) → out ++ keys_of_levels ((p ∷ ps) ∷ ls) ≡ whole
    → out' ≡ out ++ equality_part_start p
    → out' ++ keys_of_levels (parts p.1 ∷ ps ∷ ls) ≡ whole
part_begun p ps ls out out' whole h e = grind (arith, append_assoc, key_split)

-- a part without parts
pub part_done : (p : EntryPrefix) (ps : List EntryPrefix) (ls : List (List EntryPrefix)) (out out' whole : List ℕ) → parts p.1 ≡ [] → out ++ keys_of_levels ((p ∷ ps) ∷ ls) ≡ whole
    → out' ≡ out ++ equality_part_start p → out' ++ keys_of_levels (ps ∷ ls) ≡ whole
part_done p ps ls out out' whole none h e = rw none at (part_begun p ps ls out out' whole h e)

-- nothing is left at any level
pub walk_done : (out whole : List ℕ) → out ++ keys_of_levels ([] ∷ []) ≡ whole → out ≡ whole
walk_done out whole h = sym (append-nil out) ∙ h

pub all_written : (form : Form) (around : List ChildCursor) (others : List (List EntryPrefix)) (out whole : List ℕ) → length around ≡ 0
    → HavePartsLeft form (reverse around) others → out ++ keys_of_levels ([] ∷ others) ≡ whole → out ≡ whole
all_written form around others out whole none h fact = by others (omega (arith, as_many_around form around others h, none)) fact
  where
    by : (ls : List (List EntryPrefix)) → length ls ≡ 0 → out ++ keys_of_levels ([] ∷ ls) ≡ whole → out ≡ whole
    by [] e f = walk_done out whole f
    by (l ∷ ls) e f = absurd (omega (arith, e))

-- a document without parts is its start
pub only_start : (t : Tree) (old out : List ℕ) → parts t ≡ [] → out ≡ old ++ equality_start t → out ≡ old ++ equality_key t
only_start t old out none e = walk_done out (old ++ equality_key t) (rw none at (walk_begun t old out e))
