-- Checks and depths: what is left of a whole decides it, how often a length can be halved, and the depth of items by their parts.
use Rattle.jsonb_doc.proofs.Common.{◌≡◌, ◌≢◌, ℕ, ◌+◌, ◌/◌, ◌<◌, ◌≤◌, List, length, Option, Some, None, Bool, false, ◌&&◌, ◌↔◌, arith, NumberReader, number_of, number_or_unsupported, IsValidationError, ReducesTo, HasContent, HasEntries, HasParts, HasLarge, Error, UnsupportedNumber, zero, suc, refl, max, rules, inl, ap, ord_max, Tree, object, Trees, no_trees, tree, Pairs, no_pairs, pair, values, Form, number_reader, BeginWith, Decodes, IsContent, AreEntries, deepest, deepest_of_trees, deepest_of_pairs, Holds, parts_of, LiesBelow, AreDeep, ObjectParts, Object, nat_cmp, ArrayParts, Array}
use Rattle.jsonb_doc.proofs.Containers.{entries_of}
use Rattle.jsonb_doc.proofs.Entries.{AreEntries-first}
use Rattle.jsonb_doc.proofs.PairsLemmas.{SkipsKeys, HoldsPairs-values}

-- one child is checked, and the others are left
module _ (supported : Bool) (Whole Left Part Others : NumberReader → Type 0) (l : ReducesTo supported Whole Left)
    (split : (number_at : NumberReader) → Left number_at ↔ (Part number_at × Others number_at)) where
  pub Leaves-good : Part number_of → Part number_or_unsupported → ReducesTo supported Whole Others
  Leaves-good h e = grind arith

  pub Leaves-unsupported : (Part number_of → ⊥) → Part number_or_unsupported → ReducesTo false Whole Others
  Leaves-unsupported h e = grind arith

-- a reduction of what is left is a reduction of the whole
pub Leaves-then : (first second : Bool) (Whole Left Less : NumberReader → Type 0) → ReducesTo first Whole Left → ReducesTo second Left Less
    → ReducesTo (first && second) Whole Less
Leaves-then first second Whole Left Less h e = grind arith

-- what is left may be replaced by what is equivalent
pub Leaves-along : (supported : Bool) (Whole Left Other : NumberReader → Type 0) → ((number_at : NumberReader) → Left number_at ↔ Other number_at)
    → ReducesTo supported Whole Left → ReducesTo supported Whole Other
Leaves-along supported Whole Left Other h e = grind arith

-- a container leaves what its entries leave
pub Leaves-entries : (first second : Bool) (bytes container words contents : List ℕ) (large : Option (List ℕ))
    → ReducesTo first (HasContent 5 bytes) (HasContent 5 container) → HasParts container words contents
    → ReducesTo second (HasEntries words contents) (HasLarge large) → ReducesTo (first && second) (HasContent 5 bytes) (HasLarge large)
Leaves-entries first second bytes container words contents large h e k = search (arith, Leaves-then, Leaves-along)

-- an error that is not of an unsupported number
pub IsValidationError-other : (Holds : NumberReader → Type 0) (e : Error) → e ≢ UnsupportedNumber → IsValidationError Holds e → Holds number_or_unsupported → ⊥
IsValidationError-other Holds e h k f = grind arith

-- The large part, if there is one, is longer than half of the whole, and what is left is next to it.
abbrev pub IsApart : Option (List ℕ) → List ℕ → List ℕ → Type 0
IsApart None left whole = length left ≤ length whole
IsApart (Some large) left whole = (length whole / 2 < length large) × (length large + length left ≤ length whole)

pub IsApart-within : (large : Option (List ℕ)) (left whole : List ℕ) → IsApart large left whole → length left ≤ length whole
IsApart-within large left whole h = grind arith

pub IsApart-less : (large : Option (List ℕ)) (left less whole : List ℕ) → length less ≤ length left → IsApart large left whole → IsApart large less whole
IsApart-less large left less whole h e = grind arith

-- there is one large part
pub IsApart-one : (large : Option (List ℕ)) (left whole other : List ℕ) → IsApart large left whole → length other ≤ length left
    → length whole / 2 < length other → large ≡ None
IsApart-one large left whole other h e k = grind arith

unfoldable pub halvings_within : ℕ → ℕ → ℕ
halvings_within zero n = 0
halvings_within (suc f) zero = 0
halvings_within (suc f) (suc n) = suc (halvings_within f (suc n / 2))

-- how often n can be halved before nothing is left
unfoldable pub halvings : ℕ → ℕ
halvings n = halvings_within n n

within_more : (f a b : ℕ) → a ≤ b → halvings_within f a ≤ halvings_within f b
unfolding halvings_within
within_more (suc f) (suc a) (suc b) le = grind (arith, within_more f (suc a / 2) (suc b / 2) (omega arith))
within_more _ _ _ le = grind arith

within_same : (f g n : ℕ) → n ≤ f → n ≤ g → halvings_within f n ≡ halvings_within g n
unfolding halvings_within
within_same zero zero n p q = refl
within_same zero (suc g) zero p q = refl
within_same zero (suc g) (suc n) p q = absurd (omega arith)
within_same (suc f) zero zero p q = refl
within_same (suc f) zero (suc n) p q = absurd (omega arith)
within_same (suc f) (suc g) zero p q = refl
within_same (suc f) (suc g) (suc n) p q = grind (arith, within_same f g (suc n / 2) (omega arith) (omega arith))

pub halvings-more : (a b : ℕ) → a ≤ b → halvings a ≤ halvings b
unfolding halvings
halvings-more a b le = grind (arith, within_same a b a (omega arith) le, within_more b a b le, (within_same a b a (omega arith) le), (within_more b a b le))

-- what is no longer than half can be halved less often
pub halvings-fewer : (a b : ℕ) → 0 < b → a ≤ b / 2 → halvings a < halvings b
unfolding halvings halvings_within
halvings-fewer a zero some le = absurd (omega arith)
halvings-fewer a (suc b) some le =
    let more = (within_same a b a (omega arith) (omega arith)) in
    grind (arith, within_same a b a (omega arith) (omega arith), within_more b a (suc b / 2) le, more, (within_more b a (suc b / 2) le))

-- the greater of two numbers, as Rust has it
pub max_of : (greatest a b : ℕ) → greatest ≡ ord_max nat_cmp a b → greatest ≡ max a b
max_of greatest a b is = search rules

-- ---- the parts of a document that is cut

module _ (number_at : NumberReader) where
  -- the parts of an array are its elements
  pub array_parts : (t : Tree) (p : ArrayParts) → Holds number_at t (Array p) → AreEntries number_at (parts_of t) p.words.now p.contents.now
  array_parts t p h = grind arith

  -- the parts of an object are its values
  pub object_parts : (t : Tree) (p : ObjectParts) (found : List ℕ) → SkipsKeys p found → Holds number_at t (Object p)
      → AreEntries number_at (parts_of t) p.value_words.now found
  object_parts (object ps) p found skips h =
      rw (HoldsPairs-values number_at ps p found h skips) (entries_of number_at ps p.value_words.now h.rest h.values)
  object_parts _ p found skips h = absurd h

-- ---- depths by parts

deepest_values : (ps : Pairs) → deepest_of_pairs ps ≡ deepest_of_trees (values ps)
deepest_values no_pairs = refl
deepest_values (pair key t ps) = ap (max (suc (deepest t))) (deepest_values ps)

pub deepest_parts : (t : Tree) → deepest t ≡ deepest_of_trees (parts_of t)
deepest_parts t = grind (arith, deepest_values)

-- the deepest item of a tree is in the container that is left, or has the known depth
pub AreDeep-large : (form : Form) (t : Tree) (known : ℕ) (left : Option (List ℕ)) (large : List ℕ) → left ≡ Some large → AreDeep form (parts_of t) known left
    → (inner : Tree) × Decodes form large inner × (deepest t ≡ max known (suc (deepest inner)))
AreDeep-large form t known left large h e = grind (arith, deepest_parts)

pub AreDeep-whole : (form : Form) (t : Tree) (known : ℕ) (left : Option (List ℕ)) → left ≡ None → AreDeep form (parts_of t) known left → deepest t ≡ known
AreDeep-whole form t known left h e = grind (arith, deepest_parts)

-- a scalar and an empty container have depth 0
pub no_parts : (t : Tree) → parts_of t ≡ no_trees → deepest t ≡ 0
no_parts t none = rw (deepest_parts t, none) refl

-- ---- a container that is left

pub container_decodes : (form : Form) (t : Tree) (kind : ℕ) (bytes : List ℕ) → kind ≡ 5 → IsContent (number_reader form) t kind bytes → Decodes form bytes t
container_decodes form t kind bytes container h = record { document = inl (rw container at h) }

-- The trees are so deep, except for those in the container that is left, and for these entries.
pub record EntriesLeft (form : Form) (ts : Trees) (known : ℕ) (large : Option (List ℕ)) (words contents : List ℕ) : Type 0 where
  pub others : Trees
  pub below : ℕ
  pub lies : LiesBelow form large below
  pub entries : AreEntries (number_reader form) others words contents
  pub all : deepest_of_trees ts ≡ max (max known below) (deepest_of_trees others)

-- entries that begin with none are none
pub EntriesLeft-none : (form : Form) (ts : Trees) (known : ℕ) (large : Option (List ℕ)) (words contents : List ℕ)
    → ((kind : ℕ) (content ws cs : List ℕ) → BeginWith words contents kind content ws cs → ⊥)
    → EntriesLeft form ts known large words contents → AreDeep form ts known large
EntriesLeft-none form ts known large words contents none l = record { below = l.below; lies = l.lies; all = go l.others l.entries l.all }
  where
    go : (others : Trees) → AreEntries (number_reader form) others words contents → deepest_of_trees ts ≡ max (max known l.below) (deepest_of_trees others)
        → deepest_of_trees ts ≡ max known l.below
    go no_trees h all = omega arith
    go (tree t us) h all = absurd (none h.kind h.content h.other_words h.other_contents h.begin)

module _ (form : Form) (ts : Trees) (known : ℕ) (large : Option (List ℕ)) (words contents : List ℕ)
    (kind : ℕ) (content ws cs : List ℕ) (b : BeginWith words contents kind content ws cs) (l : EntriesLeft form ts known large words contents) where
  -- the first entry has this depth
  pub EntriesLeft-next : (within : ℕ) → ((t : Tree) → IsContent (number_reader form) t kind content → within ≡ deepest t)
      → EntriesLeft form ts (max known (1 + within)) large ws cs
  EntriesLeft-next within same =
      let (t, others, is, part, entries) = AreEntries-first (number_reader form) l.others words contents kind content ws cs b l.entries in
      let all : deepest_of_trees ts ≡ max (max known l.below) (max (suc (deepest t)) (deepest_of_trees others)) = rw is at l.all in
      record { others = others; below = l.below; lies = l.lies; entries = entries; all = omega (arith, same t part) }

  -- the first entry is put aside
  pub EntriesLeft-aside : large ≡ None → kind ≡ 5 → EntriesLeft form ts (max known 1) (Some content) ws cs
  EntriesLeft-aside none container =
      let (t, others, is, part, entries) = AreEntries-first (number_reader form) l.others words contents kind content ws cs b l.entries in
      let all : deepest_of_trees ts ≡ max (max known l.below) (max (suc (deepest t)) (deepest_of_trees others)) = rw is at l.all in
      let zero : l.below ≡ 0 = rw none at l.lies in
      record {
        others = others;
        below = suc (deepest t);
        lies = (t, container_decodes form t kind content container part, refl);
        entries = entries;
        all = omega arith;
      }
