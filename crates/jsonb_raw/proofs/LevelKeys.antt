-- A walk over levels that spells sortable keys: what is written, and then the keys of what each level has left, the
-- innermost first, is the whole.
use Rattle.jsonb_raw.proofs.Common.{◌≡◌, ◌+◌, ◌<◌, ◌≤◌, ◌++◌, ℕ, List, [], ◌∷◌, Option, Some, None, Ok, refl, ap, arith, append_assoc, suc, max, append-nil, length, Bor, Width, StoredEntry, Error, Form, Stores, Tree, Trees, Pairs, deepest, deepest_of_trees, deepest_of_pairs, sortable_key, keys_of_trees, keys_of_pairs, item_bytes, text_bytes, depths, IsOutOfMemoryOrTooDeep, ChildCursor, EntryPrefix, parts, parts_of_trees, parts_of_pairs, HasPartsLeft, TakesPart, IsKeyOf, start, name_start, part_start}
use Rattle.jsonb_raw.proofs.LevelLemmas.{SomeParts, SomeParts-first, as_many_around}

-- ---- bytes that are written in a row, and the depths of what they are for

-- What is written and the bytes of what is left are the whole; what is left has the depth `left_deep`, the whole
-- `deep`.
pub record IsToward (limit : ℕ) (out left : List ℕ) (left_deep : ℕ) (old whole : List ℕ) (deep : ℕ) : Type 0 where
  pub written : out ++ left ≡ old ++ whole
  pub shallow : left_deep < limit → deep < limit
  pub deeper : left_deep ≤ deep

-- ---- the key of a tree by its parts

abbrev pub part_key : Width → EntryPrefix → ℕ → List ℕ
part_key w (None, t) d = sortable_key w t d
part_key w (Some k, t) d = item_bytes w d 5 (text_bytes k) ++ sortable_key w t d

abbrev pub keys_of_parts : Width → List EntryPrefix → ℕ → List ℕ
keys_of_parts w [] d = []
keys_of_parts w (p ∷ ps) d = part_key w p d ++ keys_of_parts w ps d

abbrev pub deep_of_parts : List EntryPrefix → ℕ
deep_of_parts [] = 0
deep_of_parts (p ∷ ps) = max (suc (deepest p.1)) (deep_of_parts ps)

trees_keys : (w : Width) (ts : Trees) (d : ℕ) → keys_of_parts w (parts_of_trees ts) d ≡ keys_of_trees w ts d
trees_keys w Trees.no_trees d = refl
trees_keys w (Trees.tree t ts) d = ap (λ x. sortable_key w t d ++ x) (trees_keys w ts d)

pairs_keys : (w : Width) (ps : Pairs) (d : ℕ) → keys_of_parts w (parts_of_pairs ps) d ≡ keys_of_pairs w ps d
pairs_keys w Pairs.no_pairs d = refl
pairs_keys w (Pairs.pair k t ps) d = grind (arith, append_assoc, pairs_keys w ps d)

trees_deep : (ts : Trees) → deepest_of_trees ts ≡ deep_of_parts (parts_of_trees ts)
trees_deep Trees.no_trees = refl
trees_deep (Trees.tree t ts) = ap (λ n. max (suc (deepest t)) n) (trees_deep ts)

pairs_deep : (ps : Pairs) → deepest_of_pairs ps ≡ deep_of_parts (parts_of_pairs ps)
pairs_deep Pairs.no_pairs = refl
pairs_deep (Pairs.pair k t ps) = ap (λ n. max (suc (deepest t)) n) (pairs_deep ps)

parts_deep : (t : Tree) → deepest t ≡ deep_of_parts (parts t)
parts_deep t = grind (arith, trees_deep, pairs_deep)

key_split : (w : Width) (t : Tree) (d : ℕ) → sortable_key w t d ≡ start w t d ++ keys_of_parts w (parts t) (suc d)
key_split w t d = grind (arith, append-nil, trees_keys, append_assoc, pairs_keys)

part_split : (w : Width) (p : EntryPrefix) (d : ℕ) → part_key w p d ≡ part_start w p d ++ keys_of_parts w (parts p.1) (suc d)
part_split w p d = grind (arith, key_split, append_assoc)

-- a part's key is written, if it has one, and then its start
pub part_written : (w : Width) (p : EntryPrefix) (d : ℕ) (out named out' : List ℕ) → named ≡ out ++ name_start w p.0 d → out' ≡ named ++ start w p.1 d
    → out' ≡ out ++ part_start w p d
part_written w p d out named out' is written = cc (written, append_assoc out (name_start w p.0 d) (start w p.1 d))

-- ---- what is left at levels, the innermost first: each is one deeper than the next

abbrev pub keys_of_levels : Width → List (List EntryPrefix) → List ℕ
keys_of_levels w [] = []
keys_of_levels w (ps ∷ ls) = keys_of_parts w ps (suc (length ls)) ++ keys_of_levels w ls

abbrev pub deep_of_levels : List (List EntryPrefix) → ℕ
deep_of_levels [] = 0
deep_of_levels (ps ∷ ls) = max (length ls + deep_of_parts ps) (deep_of_levels ls)

-- the walk is within these levels, none of which is too deep
pub record IsWithin (w : Width) (out : List ℕ) (levels : List (List EntryPrefix)) (old whole : List ℕ) (deep : ℕ) : Type 0 where
  pub toward : IsToward (depths w) out (keys_of_levels w levels) (deep_of_levels levels) old whole deep
  pub low : length levels ≤ depths w

pub walk_begun : (w : Width) (t : Tree) (old out : List ℕ) → (out ≡ old ++ start w t 0) × (0 < depths w)
    → IsWithin w out (parts t ∷ []) old (sortable_key w t 0) (deepest t)
walk_begun w t old out p = grind (arith, parts_deep, append-nil, append_assoc, key_split)

-- a part's start is written, and its own parts are left within
pub part_begun : (w : Width) (p : EntryPrefix) (ps : List EntryPrefix) (ls : List (List EntryPrefix)) (out out' old whole : List ℕ) (deep : ℕ)
    → IsWithin w out ((p ∷ ps) ∷ ls) old whole deep
    → (out' ≡ out ++ part_start w p (length ls + 1)) × (length ls + 1 < depths w) → IsWithin w out' (parts p.1 ∷ ps ∷ ls) old whole deep
part_begun w p ps ls out out' old whole deep h e = grind (arith, parts_deep, append_assoc, part_split)

-- a part is refused
pub part_refused : (w : Width) (p : EntryPrefix) (ps : List EntryPrefix) (ls : List (List EntryPrefix)) (out old whole : List ℕ) (deep : ℕ) (e : Error)
    → IsWithin w out ((p ∷ ps) ∷ ls) old whole deep
    → IsOutOfMemoryOrTooDeep (length ls + 1) (depths w) e → IsOutOfMemoryOrTooDeep deep (depths w) e
part_refused w p ps ls out old whole deep e h r = grind arith

-- nothing is left at the innermost level
pub level_done : (w : Width) (ls : List (List EntryPrefix)) (out old whole : List ℕ) (deep : ℕ) → IsWithin w out ([] ∷ ls) old whole deep
    → IsWithin w out ls old whole deep
level_done w ls out old whole deep h = grind arith

-- a part without parts
pub part_done : (w : Width) (p : EntryPrefix) (ps : List EntryPrefix) (ls : List (List EntryPrefix)) (out old whole : List ℕ) (deep : ℕ) → parts p.1 ≡ []
    → IsWithin w out (parts p.1 ∷ ps ∷ ls) old whole deep → IsWithin w out (ps ∷ ls) old whole deep
part_done w p ps ls out old whole deep none h = level_done w (ps ∷ ls) out old whole deep (rw none at h)

-- the same, with the depth as a walk has it
pub part_begun_at : (w : Width) (p : EntryPrefix) (ps : List EntryPrefix) (ls : List (List EntryPrefix)) (d : ℕ) (out out' old whole : List ℕ) (deep : ℕ) → d ≡ length ls
    → IsWithin w out ((p ∷ ps) ∷ ls) old whole deep
    → (out' ≡ out ++ part_start w p (d + 1)) × (d + 1 < depths w) → IsWithin w out' (parts p.1 ∷ ps ∷ ls) old whole deep
part_begun_at w p ps ls d out out' old whole deep is h e = part_begun w p ps ls out out' old whole deep h (rw is at e)

-- what fails for the first part that is left fails for the whole
pub first_refused : (form : Form) (w : Width) (level level' : ChildCursor) (around : List ChildCursor) (name : Option (Bor (List ℕ))) (entry : StoredEntry) (d : ℕ)
    (out old whole : List ℕ) (deep : ℕ) (e : Error)
    → ((ps : List EntryPrefix) → HasPartsLeft form level ps → TakesPart form ps (Ok (Some (name, entry))) level')
    → SomeParts form level around (λ here others. IsWithin w out (here ∷ others) old whole deep) → d ≡ length around
    → ((p : EntryPrefix) → IsKeyOf name p.0 → Stores form entry p.1 → IsOutOfMemoryOrTooDeep (d + 1) (depths w) e)
    → IsOutOfMemoryOrTooDeep deep (depths w) e
first_refused form w level level' around name entry d out old whole deep e takes left is refused = grind (arith, SomeParts-first, as_many_around, part_refused)
