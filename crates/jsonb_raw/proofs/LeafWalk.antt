-- What a walk keeps of leaves, and the results of the functions.
use Rattle.jsonb_raw.proofs.Common.{◌≡◌, ◌+◌, ◌%◌, ◌<◌, ◌^◌, ◌++◌, ℕ, suc, pos, Bool, true, false, List, [], ◌∷◌, Option, Some, None, length, refl, sym, ap, ◌∙◌, arith, append_assoc, append-nil, reverse, Bor, ◌⊎◌, Result, Vec, map, MatchResult, cast_signed, AllZip, map-append, reverse-reverse, ints, Tree, Trees, no_trees, tree, Pairs, no_pairs, pair, count, Form, StandsFor, Item, array_document, object_document, Key, index, unquoted_name, Step, Enclosing, ChildCursor, EntryPrefix, parts, parts_of_trees, parts_of_pairs, IsKeyOf, Leaf, is_leaf, leaves_at, leaves, leaves_of_trees, leaves_of_pairs, behind, step_at, step_key, step_keys, steps_within, IsKept, innermost, Error, Value, IsOutOfMemory, value_tree, value_parts, KeyPaths, key_paths_view, w32, Any, Global}
use Rattle.jsonb_raw.proofs.AnswerLemmas.{Made, none_made, one_made, all_made, one_of_whole}
use Rattle.jsonb_raw.proofs.LevelLemmas.{count_of_trees, count_of_pairs}

-- ---- the leaves within a tree by its parts

abbrev pub next : ℕ → ℕ
next n = (n + 1) % 2 ^ 32

-- the step to a part of this key, if any, and at this position
abbrev pub part_step : Option (List ℕ) → ℕ → Key
part_step None n = index (cast_signed w32 n)
part_step (Some k) n = unquoted_name k

abbrev pub leaves_of_parts : Bool → ℕ → List EntryPrefix → List Leaf
leaves_of_parts ignore_array n [] = []
leaves_of_parts ignore_array n (p ∷ ps) = leaves_at ignore_array (part_step p.0 n) p.1 (leaves ignore_array p.1) ++ leaves_of_parts ignore_array (next n) ps

signed : (n : ℕ) → n < 2 ^ 31 → cast_signed w32 n ≡ pos n
signed n small = omega (arith, ints)

trees_leaves : (ignore_array : Bool) (n : ℕ) (ts : Trees) → n + count ts < 2 ^ 31
    → leaves_of_parts ignore_array n (parts_of_trees ts) ≡ leaves_of_trees ignore_array n ts
trees_leaves ignore_array n no_trees few = refl
trees_leaves ignore_array n (tree t ts) few = grind (arith, signed, trees_leaves ignore_array (suc n) ts (omega arith))

pairs_leaves : (ignore_array : Bool) (n : ℕ) (ps : Pairs) → leaves_of_parts ignore_array n (parts_of_pairs ps) ≡ leaves_of_pairs ignore_array ps
pairs_leaves ignore_array n no_pairs = refl
pairs_leaves ignore_array n (pair k t ps) = cc (pairs_leaves ignore_array (next n) ps)

pub parts_leaves : (ignore_array : Bool) (t : Tree) → length (parts t) < 2 ^ 31 → is_leaf ignore_array t ≡ false
    → leaves ignore_array t ≡ leaves_of_parts ignore_array 0 (parts t)
parts_leaves ignore_array t h k = grind (arith, trees_leaves, count_of_trees, pairs_leaves)

pub item_leaves : (form : Form) (x : Item) (ignore_array : Bool) (t : Tree) → StandsFor form x t → is_leaf ignore_array t ≡ false
    → leaves ignore_array t ≡ leaves_of_parts ignore_array 0 (parts t)
item_leaves form x ignore_array t h e = grind (arith, parts_leaves, array_document, count_of_trees, object_document, count_of_pairs)

-- ---- what is left at levels

-- the same leaves, first one step further in, and then further
behind-step : (path : List Key) (step : Key) (within : List Leaf) → behind (path ++ step ∷ []) within ≡ behind path (behind (step ∷ []) within)
behind-step path step [] = refl
behind-step path step (leaf ∷ within) = cc (append_assoc path (step ∷ []) leaf.0, behind-step path step within)

behind-none : (found : List Leaf) → behind [] found ≡ found
behind-none [] = refl
behind-none (leaf ∷ found) = ap (λ (ls : List Leaf). leaf ∷ ls) (behind-none found)

-- the leaves of what the containers around have left, the innermost first
abbrev pub leaves_around : Bool → List Step → List (List EntryPrefix) → List Leaf
leaves_around ignore_array (e ∷ es) (ps ∷ ls) = behind (step_keys (reverse es)) (leaves_of_parts ignore_array (next e.index) ps)
    ++ leaves_around ignore_array es ls
leaves_around ignore_array _ _ = []

-- the leaves that a walk has left: those of what each level has left, the innermost first
abbrev pub leaves_left : Bool → List Step → ℕ → List EntryPrefix → List (List EntryPrefix) → List Leaf
leaves_left ignore_array around n here others = behind (step_keys around) (leaves_of_parts ignore_array n here)
    ++ leaves_around ignore_array (reverse around) others

-- a part that is a leaf is the first that is left
leaf_left : (ignore_array : Bool) (around : List Step) (n : ℕ) (key : Option (Bor (List ℕ))) (p : EntryPrefix) (ps : List EntryPrefix) (others : List (List EntryPrefix))
    → is_leaf ignore_array p.1 ≡ true → IsKeyOf key p.0
    → leaves_left ignore_array around n (p ∷ ps) others
    ≡ (step_keys around ++ step_at key n ∷ [], p.1) ∷ leaves_left ignore_array around (next n) ps others
leaf_left ignore_array around n key p ps others h e = grind arith

-- in the place of a part that is not a leaf are those within it
part_left : (ignore_array : Bool) (around around' : List Step) (e : Step) (p : EntryPrefix) (ps : List EntryPrefix) (others : List (List EntryPrefix))
    → is_leaf ignore_array p.1 ≡ false → IsKeyOf e.key p.0 → leaves ignore_array p.1 ≡ leaves_of_parts ignore_array 0 (parts p.1)
    → around' ≡ around ++ e ∷ []
    → leaves_left ignore_array around' 0 (parts p.1) (ps ∷ others) ≡ leaves_left ignore_array around e.index (p ∷ ps) others
part_left ignore_array around around' e p ps others entered keyed within pushed =
    let steps = step_keys around in
    let step = part_step p.0 e.index in
    let left = leaves_of_parts ignore_array (next e.index) ps in
    let outside = leaves_around ignore_array (reverse around) others in
    let inner = leaves_of_parts ignore_array 0 (parts p.1) in
    ap (λ (es : List Step). behind (step_keys es) inner ++ leaves_around ignore_array (reverse es) (ps ∷ others)) pushed
    ∙ ap (λ (es : List Step). behind (step_keys (around ++ e ∷ [])) inner ++ leaves_around ignore_array es (ps ∷ others)) (innermost around e)
    ∙ ap (λ (es : List Step). behind (step_keys (around ++ e ∷ [])) inner ++ (behind (step_keys es) left ++ outside)) (reverse-reverse around)
    ∙ ap (λ (ss : List Key). behind ss inner ++ (behind steps left ++ outside))
    (map-append step_key around (e ∷ []) ∙ ap (λ s. steps ++ s ∷ []) (grind arith))
    ∙ ap (λ (ls : List Leaf). ls ++ (behind steps left ++ outside)) (behind-step steps step inner)
    ∙ sym (append_assoc (behind steps (behind (step ∷ []) inner)) (behind steps left) outside)
    ∙ ap (λ (ls : List Leaf). ls ++ outside) (sym (map-append (λ (leaf : Leaf). (steps ++ leaf.0, leaf.1)) (behind (step ∷ []) inner) left))
    ∙ ap (λ (ls : List Leaf). behind steps (ls ++ left) ++ outside)
    (ap (λ (ls : List Leaf). behind (step ∷ []) ls) (sym within) ∙ sym (at_part step p.1 (leaves ignore_array p.1) entered))
  where
    at_part : (step : Key) (t : Tree) (inside : List Leaf) → is_leaf ignore_array t ≡ false → leaves_at ignore_array step t inside ≡ behind (step ∷ []) inside
    at_part step t inside entered = rw entered refl

-- ---- what is found

-- R holds of what is found and the leaves so far, after which are those that are left
abbrev pub LeavesToward : {A : Type 0} → (A → Leaf → Type 0) → Bool → List A → List Step → ℕ → List EntryPrefix → List (List EntryPrefix) → List Leaf → Type 0
LeavesToward R ignore_array found around n here others whole = Made R found (leaves_left ignore_array around n here others) whole

module _ {A : Type 0} (R : A → Leaf → Type 0) (ignore_array : Bool) where
  pub walk_begun : (found : List A) (around : List Step) (t : Tree) → found ≡ [] → around ≡ []
      → leaves ignore_array t ≡ leaves_of_parts ignore_array 0 (parts t)
      → LeavesToward R ignore_array found around 0 (parts t) [] (leaves ignore_array t)
  walk_begun found around t none root is = grind (arith, none_made, append-nil, behind-none)

  -- the leaf that is first is found
  pub leaf_found : (found found' : List A) (around : List Step) (n : ℕ) (key : Option (Bor (List ℕ))) (p : EntryPrefix) (ps : List EntryPrefix)
      (others : List (List EntryPrefix)) (whole : List Leaf) (x : A)
      → LeavesToward R ignore_array found around n (p ∷ ps) others whole → is_leaf ignore_array p.1 ≡ true → IsKeyOf key p.0
      → R x (step_keys around ++ step_at key n ∷ [], p.1) → found' ≡ found ++ x ∷ []
      → LeavesToward R ignore_array found' around (next n) ps others whole
  leaf_found found found' around n key p ps others whole x h leaf keyed kept pushed = grind (arith, one_made, leaf_left)

  -- what holds of it holds of one of all
  pub leaf_of_whole : (P : Leaf → Type 0) (found : List A) (around : List Step) (n : ℕ) (key : Option (Bor (List ℕ))) (p : EntryPrefix) (ps : List EntryPrefix)
      (others : List (List EntryPrefix)) (whole : List Leaf)
      → LeavesToward R ignore_array found around n (p ∷ ps) others whole → is_leaf ignore_array p.1 ≡ true → IsKeyOf key p.0
      → P (step_keys around ++ step_at key n ∷ [], p.1) → Any P whole
  leaf_of_whole P found around n key p ps others whole h leaf keyed holds =
      one_of_whole R P found _ _ whole holds (rw (leaf_left ignore_array around n key p ps others leaf keyed) at h)

  -- a part that is not a leaf is entered
  pub part_entered : (found : List A) (around around' : List Step) (e : Step) (p : EntryPrefix) (ps : List EntryPrefix) (others : List (List EntryPrefix))
      (whole : List Leaf)
      → LeavesToward R ignore_array found around e.index (p ∷ ps) others whole → is_leaf ignore_array p.1 ≡ false → IsKeyOf e.key p.0
      → leaves ignore_array p.1 ≡ leaves_of_parts ignore_array 0 (parts p.1) → around' ≡ around ++ e ∷ []
      → LeavesToward R ignore_array found around' 0 (parts p.1) (ps ∷ others) whole
  part_entered found around around' e p ps others whole h entered keyed within pushed = grind (arith, part_left)

  -- nothing is left at the innermost level
  pub level_done : (found : List A) (around around' : List Step) (outer : Step) (n : ℕ) (here : List EntryPrefix) (others more : List (List EntryPrefix))
      (whole : List Leaf)
      → others ≡ here ∷ more → around ≡ around' ++ outer ∷ [] → LeavesToward R ignore_array found around n [] others whole
      → LeavesToward R ignore_array found around' (next outer.index) here more whole
  level_done found around around' outer n here others more whole same popped h = grind (arith, reverse-reverse, innermost)

  -- nothing is left at any level
  pub walk_done : (found : List A) (around : List Step) (n : ℕ) (others : List (List EntryPrefix)) (whole : List Leaf) → around ≡ []
      → LeavesToward R ignore_array found around n [] others whole → AllZip R found whole
  walk_done found around n others whole root h = all_made R found whole (rw root at h)

-- ---- the containers around

abbrev pub levels_around : List Enclosing → List ChildCursor
levels_around around = map (λ (outer : Enclosing). outer.level) around

pub levels_joined : (around around' : List Enclosing) (outer : Enclosing) → around' ≡ around ++ outer ∷ []
    → levels_around around' ≡ levels_around around ++ outer.level ∷ []
levels_joined around around' outer e = ap levels_around e ∙ map-append (λ (o : Enclosing). o.level) around (outer ∷ [])

pub steps_joined : (around around' : List Enclosing) (outer : Enclosing) → around' ≡ around ++ outer ∷ []
    → steps_within around' ≡ steps_within around ++ outer.step ∷ []
steps_joined around around' outer e = ap steps_within e ∙ map-append (λ (o : Enclosing). o.step) around (outer ∷ [])

-- ---- from what a walk keeps of leaves to the results of the functions

-- the value was decoded from the tree, and its numbers have the tree's parts
abbrev IsValueOf : Tree → Value → Type 0
IsValueOf t value = (value_tree value ≡ t) × (value_parts value ≡ t)

-- key paths with values as leaves
abbrev leaves_seen : (Value → Tree) → List (KeyPaths × Value) → List Leaf
leaves_seen seen found = map (λ leaf. (key_paths_view leaf.0, seen leaf.1)) found

values_are_seen : (seen : Value → Tree) → ((value : Value) (t : Tree) → IsValueOf t value → seen value ≡ t) → (found : List (KeyPaths × Value))
    (whole : List Leaf) → AllZip (IsKept IsValueOf) found whole → leaves_seen seen found ≡ whole
values_are_seen seen sees [] [] h = refl
values_are_seen seen sees (x ∷ found) ((steps, t) ∷ whole) h = cc (h.0.0, sees x.1 t h.0.1, values_are_seen seen sees found whole h.1)
values_are_seen seen sees _ _ h = absurd h

-- the values of the leaves, seen in such a way
pub values_found : (seen : Value → Tree) → ((value : Value) (t : Tree) → IsValueOf t value → seen value ≡ t)
    → (r : Result (Vec (KeyPaths × Value) Global) Error) (whole : List Leaf)
    → MatchResult r (λ found. AllZip (IsKept IsValueOf) found.items whole) (λ e. IsOutOfMemory e ⊎ Any (λ leaf. IsOutOfMemory e) whole)
    → MatchResult r (λ found. leaves_seen seen found.items ≡ whole) IsOutOfMemory
values_found seen h r whole k = grind (arith, values_are_seen)
