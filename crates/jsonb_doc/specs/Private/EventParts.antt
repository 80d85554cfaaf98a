-- Members of containers in runs, and the trees that they are.
use Rattle.std.specs.Prelude.{◌≡◌, ℕ, ◌<◌, ◌≤◌, List, [], ◌∷◌, ◌++◌, length, map, slice_range, reverse, Option, Some, None, ⊤}
use Rattle.std.specs.Borrow.{Bor}
use Rattle.std.specs.List.{AllZip}
use Rattle.jsonb_doc.specs.Tree.{Tree, null, boolean, number, text, array, object, Trees, no_trees, tree, Pairs, no_pairs, pair, keys}
use Rattle.jsonb_doc.specs.Payload.{Form}
use Rattle.jsonb_doc.specs.EventList.{scalar_of}
use Rattle.jsonb_doc.specs.declared.text_event.TextEvent.{TextEvent}
use Rattle.jsonb_doc.specs.Private.Writer.{Around, AreSortedKeys, IsWriting}
use Rattle.jsonb_doc.specs.declared.layout.HeaderKind.{HeaderKind}
use Rattle.jsonb_doc.specs.declared.layout.HeaderKind.TheVariants.{Object, Array}
use Rattle.jsonb_doc.specs.View.{number_view}
use Rattle.jsonb_doc.specs.declared.item.Item.{Item}
use Rattle.jsonb_doc.specs.declared.item.Item.TheVariants.{Null, Boolean, Number}
use Rattle.jsonb_doc.specs.declared.rewriting.Writer.{Writer}
use Rattle.jsonb_doc.specs.declared.event_list.collecting.Run.{Run}
use Rattle.jsonb_doc.specs.declared.event_list.collecting.Part.{Part}
use Rattle.jsonb_doc.specs.declared.event_list.collecting.Part.TheVariants.{Plain, Text, Nested}
use Rattle.jsonb_doc.specs.declared.event_list.collecting.Member.{Member}
use Rattle.jsonb_doc.specs.declared.event_list.writing.Left.{Left}
use Rattle.jsonb_doc.specs.declared.event_list.writing.Outer.{Outer}

-- Holds if the event is a scalar, except for a string, and this is its tree.
abbrev pub IsPlain : TextEvent → Tree → Type 0
IsPlain e t = scalar_of e ≡ Some t

-- Holds if the item is a scalar, except for a string, and this is its tree.
abbrev pub IsPlainItem : Item → Tree → Type 0
IsPlainItem Null t = t ≡ null
IsPlainItem (Boolean b) t = t ≡ boolean b
IsPlainItem (Number n) t = t ≡ number (number_view n)
IsPlainItem _ t = ⊥

-- The keys of members.
abbrev pub member_keys : List Member → List (List ℕ)
member_keys ms = map (λ m. m.key.now) ms

abbrev mutual
  -- Holds if the part has this tree. The runs of containers are in `ds`, each within the first `room` members and after
  -- those of the containers within it.
  pub IsPart : List Member → ℕ → Part → Tree → Type 0
  IsPart ds room (Nested run) (array ts) =
      (run.kind ≡ Array) × (run.end < room) × (run.first ≤ run.end) × (run.end ≤ length ds)
      × AreElements ds run.end (slice_range ds run.first run.end) ts
  IsPart ds room (Nested run) (object ps) =
      (run.kind ≡ Object) × (run.end < room) × (run.first ≤ run.end) × (run.end ≤ length ds)
      × AreSortedKeys (keys ps) × AreMembers ds run.end (slice_range ds run.first run.end) ps
  IsPart ds room (Nested run) _ = ⊥
  IsPart ds room (Text s) t = t ≡ text s.now
  IsPart ds room (Plain e) t = IsPlain e.now t

  pub AreElements : List Member → ℕ → List Member → Trees → Type 0
  AreElements ds room [] no_trees = ⊤
  AreElements ds room (m ∷ ms) (tree t ts) = IsPart ds room m.part t × AreElements ds room ms ts
  AreElements ds room _ _ = ⊥

  pub AreMembers : List Member → ℕ → List Member → Pairs → Type 0
  AreMembers ds room [] no_pairs = ⊤
  AreMembers ds room (m ∷ ms) (pair key t ps) =
      (m.key.now ≡ key) × IsPart ds room m.part t × AreMembers ds room ms ps
  AreMembers ds room _ _ = ⊥

-- The entries of a container that come next, before those of its values: its keys, if it is an object.
abbrev pub keys_first : HeaderKind → List Member → List Tree → List Tree
keys_first Object ms ts = map text (member_keys ms) ++ ts
keys_first _ ms ts = ts

-- Holds if the members have these trees.
abbrev pub HoldParts : List Member → ℕ → List Member → List Tree → Type 0
HoldParts ds room ms ts = AllZip (λ m t. IsPart ds room m.part t) ms ts

-- Holds if this is the run of the next container and the members after it, or `None` and nothing is left.
abbrev pub ArePut : Form → List Member → ℕ → Writer → Around → Tree → Option (Run × Bor (List Member)) → Type 0
ArePut form ds room w around whole None = IsWriting form w [] around whole
ArePut form ds room w around whole (Some found) =
    (t : Tree) × (ts : List Tree) × IsPart ds room (Nested found.0) t × HoldParts ds room found.1.now ts
    × IsWriting form w (t ∷ ts) around whole

-- Holds if the members that are left are what the innermost container still gets.
pub record Begins (form : Form) (ds : List Member) (left : Left) (w : Writer) (around : Around)
    (whole : Tree) : Type 0 where
  pub trees : List Tree
  pub holds : HoldParts ds left.room left.members.now trees
  pub writing : IsWriting form w trees around whole

-- The containers around, the innermost first, each with the trees that come after it.
abbrev pub AreLeft : List Member → List Outer → Around → Type 0
AreLeft ds os ls = AllZip
    (λ o l. (ts : List Tree) × HoldParts ds o.left.room o.left.members.now ts × (l ≡ (o.container, ts))) os ls

-- Holds if what is written becomes the whole with the members that are left, here and in the containers around, of
-- which the `Vec` holds the innermost last.
pub record IsWalking (form : Form) (ds : List Member) (w : Writer) (left : Left) (around : List Outer)
    (whole : Tree) : Type 0 where
  pub outside : Around
  pub are_left : AreLeft ds (reverse around) outside
  pub begun : Begins form ds left w outside whole
