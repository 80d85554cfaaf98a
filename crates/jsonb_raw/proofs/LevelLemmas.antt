-- What walks have left of containers: a level's first part, the levels around it, and two walks up to a difference.
use Rattle.jsonb_raw.proofs.Common.{◌≡◌, ℕ, suc, ◌+◌, ◌<◌, List, [], ◌∷◌, ◌++◌, length, Option, Some, None, Result, Ok, Err, refl, sym, ap, subst, ◌∙◌, arith, reverse, Bor, length-reverse, Error, StoredEntry, PairEntries, Trees, count, keys, Form, Stores, TakesPairEntry, key_trees, weight_of, weight-pos, inner_weighs, taken_weighs, weight_of_all, falls_inward, falls_outward, ChildCursor, EntryPrefix, parts_of_trees, parts_of_pairs, HasPartsLeft, TakesPart, IsKeyOf, IsSmaller, IsLevelWithin, level_room, level_bound, innermost, ◌==◌, true, false, nat_tests, Tree, number_reader, Decodes, IsContent, HeadedBy, StandsFor, kind_number, header_number, HeaderKind, Item, Array, Object, HasContent-headed, HasContent-kind, array_content, object_content, is_array, parts, HasAllLeft, ◌≤◌, Bool, ◌⊎◌, Ordering, Less, IsOkAnd, IfSome, is_some, slice_cmp, ordering_then, is_ne, ShortNumber, no_trees, tree, number_cmp, rank, tree_cmp, trees_cmp, pairs_cmp, number_of, short_value, then_assoc, part_cmp, reads_number, number_content, some_injective}
use Rattle.jsonb_doc.specs.Tree as spec
use Rattle.jsonb_raw.specs.Private.Order.{Decides}

-- ---- the first part

pub part_is : (form : Form) (level : ChildCursor) (r : Result (Option (Option (Bor (List ℕ)) × StoredEntry)) Error)
    (ps qs : List EntryPrefix) → ps ≡ qs → TakesPart form qs r level
    → TakesPart form ps r level
part_is form level r ps qs e h = subst (λ (xs : List EntryPrefix). TakesPart form xs r level) (sym e) h

pub no_pair_error : (form : Form) (it : PairEntries) (e : Error) (qs : spec.Pairs) → TakesPairEntry form qs (Some (Err e)) it → ⊥
no_pair_error form it e qs h = grind arith

-- how many parts a container has
pub count_of_trees : (ts : Trees) → count ts ≡ length (parts_of_trees ts)
count_of_trees spec.no_trees = refl
count_of_trees (spec.tree t ts) = ap suc (count_of_trees ts)

pub count_of_pairs : (ps : spec.Pairs) → length (keys ps) ≡ length (parts_of_pairs ps)
count_of_pairs spec.no_pairs = refl
count_of_pairs (spec.pair k t ps) = ap suc (count_of_pairs ps)

pub count_of_keys : (ks : List (List ℕ)) → count (key_trees ks) ≡ length ks
count_of_keys [] = refl
count_of_keys (key ∷ ks) = ap suc (count_of_keys ks)

-- ---- the levels that a walk is within, the innermost first

abbrev pub HavePartsLeft : Form → List ChildCursor → List (List EntryPrefix) → Type 0
HavePartsLeft form [] [] = Unit {0}
HavePartsLeft form (l ∷ ls) (p ∷ ps) = HasPartsLeft form l p × HavePartsLeft form ls ps
HavePartsLeft form _ _ = ⊥

-- what is left at the level and at those around it, which a `Vec` holds with the innermost last, has the property Q
pub record SomeParts (form : Form) (level : ChildCursor) (around : List ChildCursor) (Q : List EntryPrefix → List (List EntryPrefix) → Type 0) : Type 0 where
  pub here : List EntryPrefix
  pub others : List (List EntryPrefix)
  pub left : HasPartsLeft form level here
  pub left_around : HavePartsLeft form (reverse around) others
  pub fact : Q here others

pub parts_left : (form : Form) (level : ChildCursor) (around : List ChildCursor) (Q : List EntryPrefix → List (List EntryPrefix) → Type 0) (here : List EntryPrefix) (others : List (List EntryPrefix))
    → HasPartsLeft form level here → HavePartsLeft form (reverse around) others → Q here others → SomeParts form level around Q
parts_left form level around Q here others left outside fact = record { here = here; others = others; left = left; left_around = outside; fact = fact }

pub as_many : (form : Form) (ls : List ChildCursor) (ps : List (List EntryPrefix)) → HavePartsLeft form ls ps → length ls ≡ length ps
as_many form [] [] h = refl
as_many form (l ∷ ls) (p ∷ ps) h = ap suc (as_many form ls ps h.1)
as_many form _ _ h = absurd h

-- there are as many parts left around as levels
pub as_many_around : (form : Form) (around : List ChildCursor) (others : List (List EntryPrefix)) → HavePartsLeft form (reverse around) others
    → length around ≡ length others
as_many_around form around others h = sym (length-reverse around) ∙ as_many form (reverse around) others h

-- a level is left for one of its parts
pub pushed_around : (form : Form) (around around' : List ChildCursor) (l : ChildCursor) (rest : List EntryPrefix) (others : List (List EntryPrefix)) → around' ≡ around ++ l ∷ []
    → HasPartsLeft form l rest → HavePartsLeft form (reverse around) others → HavePartsLeft form (reverse around') (rest ∷ others)
pushed_around form around around' l rest others e left h = grind (arith, innermost)

module _ {G : Type 0} where
  -- the part that `take` gave is the first of what was left
  pub SomeParts-first : (form : Form) (level level' : ChildCursor) (around : List ChildCursor) (key : Option (Bor (List ℕ))) (entry : StoredEntry)
      (Q : List EntryPrefix → List (List EntryPrefix) → Type 0)
      → ((ps : List EntryPrefix) → HasPartsLeft form level ps → TakesPart form ps (Ok (Some (key, entry))) level') → SomeParts form level around Q
      → ((p : EntryPrefix) (rest : List EntryPrefix) (others : List (List EntryPrefix)) → IsKeyOf key p.0 → Stores form entry p.1 → HasPartsLeft form level' rest
      → HavePartsLeft form (reverse around) others → Q (p ∷ rest) others → G) → G
  SomeParts-first form level level' around key entry Q takes s go = grind arith

  -- if `take` gave none, none was left
  pub SomeParts-none : (form : Form) (level level' : ChildCursor) (around : List ChildCursor) (Q : List EntryPrefix → List (List EntryPrefix) → Type 0)
      → ((ps : List EntryPrefix) → HasPartsLeft form level ps → TakesPart form ps (Ok None) level') → SomeParts form level around Q
      → ((others : List (List EntryPrefix)) → HavePartsLeft form (reverse around) others → Q [] others → G) → G
  SomeParts-none form level level' around Q takes s go = grind arith

  -- `take` gives no error while it is known what is left
  pub SomeParts-error : (form : Form) (level level' : ChildCursor) (around : List ChildCursor) (e : Error) (Q : List EntryPrefix → List (List EntryPrefix) → Type 0)
      → ((ps : List EntryPrefix) → HasPartsLeft form level ps → TakesPart form ps (Err e) level') → SomeParts form level around Q → G
  SomeParts-error form level level' around e Q takes s = grind arith

  -- the innermost of the levels around
  pub popped_around : (form : Form) (around around' : List ChildCursor) (outer : ChildCursor) (others : List (List EntryPrefix)) → around ≡ around' ++ outer ∷ []
      → HavePartsLeft form (reverse around) others
      → ((here : List EntryPrefix) (more : List (List EntryPrefix)) → others ≡ here ∷ more → HasPartsLeft form outer here → HavePartsLeft form (reverse around') more → G) → G
  popped_around form around around' outer others e h go = grind (arith, innermost)

-- ---- how they shrink

unfoldable pub weight : ChildCursor → ℕ
weight l = weight_of (level_bound l) (level_room l)

abbrev pub weights : List ChildCursor → ℕ
weights ls = weight_of_all weight ls

-- the measure of a walk falls if a level is left for a part of it, if a part has no level, and where a level is done
pub falls_within : (level level' inner : ChildCursor) (around around' : List ChildCursor) (entry : StoredEntry) → IsSmaller level
    entry level' → IsLevelWithin (length entry.content.now) (Some inner) → around' ≡ around ++ level' ∷ []
    → weight inner + weights (reverse around') < weight level + weights (reverse around)
unfolding weight
falls_within level level' inner around around' entry s within e =
    falls_inward weight level level' inner around around' (inner_weighs _ _ _ _ _ _ s.bound s.room (omega (arith, s.size, within.0)) within.1) e

pub falls_beside : (level level' : ChildCursor) (around : List ChildCursor) (entry : StoredEntry) → IsSmaller level entry level'
    → weight level' + weights (reverse around) < weight level + weights (reverse around)
unfolding weight
falls_beside level level' around entry s = let less = taken_weighs _ _ _ _ s.bound s.room in omega (arith, less)

pub falls_done : (level outer : ChildCursor) (around around' : List ChildCursor) → around ≡ around' ++ outer ∷ []
    → weight outer + weights (reverse around') < weight level + weights (reverse around)
unfolding weight
falls_done level outer around around' e = falls_outward weight level outer around around' (weight-pos (level_bound level) (level_room level)) e

pub all_left : (form : Form) (t : Tree) (level : ChildCursor) → HasAllLeft form t level → HasPartsLeft form level (parts t)
all_left form t level h = grind arith

-- ---- containers by their headers

module _ (form : Form) (t : Tree) (bytes : List ℕ) (content : IsContent (number_reader form) t 5 bytes) where
  module _ (kind n : ℕ) (rest : List ℕ) (h : HeadedBy bytes kind n rest) where
    pub no_array : kind ≡ 4 → ((ts : Trees) → Decodes form bytes (spec.array ts) → ⊥) → ⊥
    no_array k none = let (ts, is, d) = array_content form bytes kind n rest h t k content in none ts d

    pub no_object : kind ≡ 2 → ((ps : spec.Pairs) → Decodes form bytes (spec.object ps) → ⊥) → ⊥
    no_object k none = let (ps, is, d) = object_content form bytes kind n rest h t k content in none ps d

    pub array_told : (kind == 4) ≡ is_array t
    array_told = grind (arith, HasContent-kind, object_content, array_content)

  -- a container has a header
  pub headed : ((kind : HeaderKind) (n : ℕ) (rest : List ℕ) → HeadedBy bytes (header_number kind) n rest → ⊥) → ⊥
  headed none = let (kind, n, rest, h) = HasContent-headed (number_reader form) bytes (t, content) in none kind n rest h

pub stored_container : (form : Form) (e : StoredEntry) (t : Tree) → Stores form e t → (kind_number e.kind == 5) ≡ true
    → IsContent (number_reader form) t 5 e.content.now
stored_container form e t h k = let is : kind_number e.kind ≡ 5 = grind (arith, nat_tests) in rw is at h.content

-- how long the first of the pair is, if there is one, and one more
abbrev pub first_left : Option (StoredEntry × StoredEntry) → ℕ
first_left None = 0
first_left (Some p) = 1 + length p.0.content.now

pub first_falls : (o : Option (StoredEntry × StoredEntry)) (n : ℕ) → IfSome o (λ p. length p.0.content.now < n) → first_left o ≤ n
first_falls o n h = grind arith

-- the order of trees that are short numbers
pub numbers_told : (form other_form : Form) (entry other : StoredEntry) (t u : Tree) (m n : ShortNumber) → Stores form entry t → Stores other_form other u
    → kind_number entry.kind ≡ 2 → kind_number other.kind ≡ 2
    → number_of entry.content.now ≡ Some (short_value m) → number_of other.content.now ≡ Some (short_value n)
    → number_cmp (short_value m) (short_value n) ≡ tree_cmp t u
numbers_told form other_form entry other t u m n h k is is' e f =
    let first = number_content (number_reader form) _ _ t is h.content in
    let second = number_content (number_reader other_form) _ _ u is' k.content in
    rw (first.1, second.1, some_injective (sym (reads_number form _ _ first.2) ∙ e), some_injective (sym (reads_number other_form _ _ second.2) ∙ f)) refl

module _ (form other_form : Form) (deferred : Option (StoredEntry × StoredEntry)) where
  -- the order may be said in another way
  pub decides_along : (o p whole : Ordering) → o ≡ p → Decides form other_form deferred o whole → Decides form other_form deferred p whole
  decides_along o p whole e h = subst (λ (x : Ordering). Decides form other_form deferred x whole) e h

  -- an order that is not equal decides, whatever follows
  pub decided : (o rest whole : Ordering) → is_ne o ≡ true → Decides form other_form deferred (ordering_then o rest) whole
      → Decides form other_form deferred o whole
  decided o rest whole e h = decides_along (ordering_then o rest) o whole (grind (arith, e)) h

  pub equal_passes : (o rest whole : Ordering) → is_ne o ≡ false → Decides form other_form deferred (ordering_then o rest) whole
      → Decides form other_form deferred rest whole
  equal_passes o rest whole e h = grind (arith, decides_along)

-- with no pair left the order is the whole
pub none_left : (form other_form : Form) (deferred : Option (StoredEntry × StoredEntry)) (o whole : Ordering)
    → ((p : StoredEntry × StoredEntry) → deferred ≡ Some p → ⊥) → Decides form other_form deferred o whole → o ≡ whole
none_left form other_form deferred o whole h k = grind arith

-- two children that are compared
pub child_told : (form other_form : Form) (deferred : Option (StoredEntry × StoredEntry)) (r : Result Ordering Error) (told rest whole : Ordering)
    → IsOkAnd r (λ o. o ≡ told) → Decides form other_form deferred (ordering_then told rest) whole
    → IsOkAnd r (λ o. Decides form other_form deferred (ordering_then o rest) whole)
child_told form other_form deferred r told rest whole h e = grind (arith, decides_along)

-- what is left of both cursors has the property Q
abbrev pub SomeOfBoth : Form → Form → ChildCursor → ChildCursor → (List EntryPrefix → List EntryPrefix → Type 0) → Type 0
SomeOfBoth form other_form it over Q = SomeParts form it [] (λ ps others. SomeParts other_form over [] (λ qs others'. Q ps qs))

module _ {G : Type 0} (form other_form : Form) (deferred : Option (StoredEntry × StoredEntry)) (after whole : Ordering) where
  -- the children that `take` gave of both are the first of what was left
  pub next_children : (it it' over over' : ChildCursor) (x y : Option (Bor (List ℕ)) × StoredEntry)
      → ((ps : List EntryPrefix) → HasPartsLeft form it ps → TakesPart form ps (Ok (Some x)) it')
      → ((qs : List EntryPrefix) → HasPartsLeft other_form over qs → TakesPart other_form qs (Ok (Some y)) over')
      → SomeOfBoth form other_form it over (λ ps qs. Decides form other_form deferred (ordering_then (slice_cmp part_cmp ps qs) after) whole)
      → ((p q : EntryPrefix) (ps qs : List EntryPrefix) → HasPartsLeft form it' ps → HasPartsLeft other_form over' qs → IsKeyOf x.0 p.0 → Stores form x.1 p.1
      → IsKeyOf y.0 q.0 → Stores other_form y.1 q.1
      → Decides form other_form deferred (ordering_then (part_cmp p q) (ordering_then (slice_cmp part_cmp ps qs) after)) whole → G) → G
  next_children it it' over over' x y takes takes' some go =
      SomeParts-first form it it' [] x.0 x.1 _ takes some
      (λ p ps others keyed stored left around fact. SomeParts-first other_form over over' [] y.0 y.1 _ takes' fact
      (λ q qs others' keyed' stored' left' around' both. go p q ps qs left left' keyed stored keyed' stored'
      (decides_along form other_form deferred _ _ whole (then_assoc (part_cmp p q) (slice_cmp part_cmp ps qs) after) both)))

-- ---- the ends

-- the order of a walk that has ended, by whether the other yields another
abbrev pub ended : Bool → Ordering → Ordering
ended true after = Less
ended false after = after

pub children_ended : (form : Form) (it it' : ChildCursor) (r : Option (Option (Bor (List ℕ)) × StoredEntry)) (after : Ordering) (Q : Ordering → Type 0)
    → ((qs : List EntryPrefix) → HasPartsLeft form it qs → TakesPart form qs (Ok r) it')
    → SomeParts form it [] (λ qs others. Q (ordering_then (slice_cmp part_cmp [] qs) after)) → Q (ended (is_some r) after)
children_ended form it it' r after Q takes s = grind arith

-- ---- containers

trees_in_order : (ts us : Trees) → trees_cmp ts us ≡ slice_cmp part_cmp (parts_of_trees ts) (parts_of_trees us)
trees_in_order no_trees no_trees = refl
trees_in_order no_trees (tree u us) = refl
trees_in_order (tree t ts) no_trees = refl
trees_in_order (tree t ts) (tree u us) = ap (ordering_then (tree_cmp t u)) (trees_in_order ts us)

pairs_in_order : (ps qs : spec.Pairs) → pairs_cmp ps qs ≡ slice_cmp part_cmp (parts_of_pairs ps) (parts_of_pairs qs)
pairs_in_order spec.no_pairs spec.no_pairs = refl
pairs_in_order spec.no_pairs (spec.pair l u qs) = refl
pairs_in_order (spec.pair k t ps) spec.no_pairs = refl
pairs_in_order (spec.pair k t ps) (spec.pair l u qs) = grind (arith, then_assoc, pairs_in_order ps qs)

-- two containers of one rank are in the order of their children
pub parts_in_order : (form other_form : Form) (t u : Tree) (level other : ChildCursor) → rank t ≡ rank u → HasAllLeft form t level → HasAllLeft other_form u other
    → tree_cmp t u ≡ slice_cmp part_cmp (parts t) (parts u)
parts_in_order form other_form t u level other h k e = grind (arith, trees_in_order, pairs_in_order)

-- an item of a container is of the rank of one
pub container_rank : (form : Form) (item : Item) (t : Tree) → ((bytes : Bor (List ℕ)) × (item ≡ Array bytes)) ⊎ ((bytes : Bor (List ℕ)) × (item ≡ Object bytes))
    → StandsFor form item t → (6 ≤ rank t) × (rank t ≤ 7)
container_rank form item t h e = grind arith

pub container_content : (form : Form) (t : Tree) (kind : ℕ) (content : List ℕ) → (6 ≤ rank t) × (rank t ≤ 7) → IsContent (number_reader form) t kind content
    → IsContent (number_reader form) t 5 content
container_content form t kind content h e = grind arith
