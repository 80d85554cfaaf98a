-- Containers around a value: their entries, and what they become without it.
use Rattle.std.specs.Prelude.{◌≡◌, ℕ, suc, ◌+◌, ◌^◌, ◌<◌, List, [], ◌∷◌, ◌++◌, length, take, drop, map, reverse, slice_get, Option, Some, None, option_and_then, ⊤}
use Rattle.std.specs.List.{AllZip, remove}
use Rattle.jsonb_doc.specs.Tree.{Tree, text, object, keys, children_of}
use Rattle.jsonb_doc.specs.Payload.{Form}
use Rattle.jsonb_doc.specs.Format.{Decodes}
use Rattle.jsonb_doc.specs.Kinds.{kind_number}
use Rattle.jsonb_doc.specs.Private.EntryKinds.{container_entry}
use Rattle.jsonb_doc.specs.Private.Writer.{Make, Around, Rooms, IsWriting, head_size}
use Rattle.jsonb_doc.specs.declared.entry_iter.StoredEntry.{StoredEntry}
use Rattle.jsonb_doc.specs.declared.rewriting.Writer.{Writer}
use Rattle.jsonb_keypath.specs.KeyPathGrammar.{Key}
use Rattle.jsonb_raw.specs.declared.functions.path.parent_entries.ParentEntries.{ParentEntries}
use Rattle.jsonb_raw.specs.declared.functions.path.cut.Outer.{Outer}
use Rattle.jsonb_raw.specs.Places.{children, child_position}
use Rattle.jsonb_raw.specs.Deletes.{change_child, remove_at}
use Rattle.jsonb_raw.specs.Private.Entries.{HoldTrees}

-- ---- what a container becomes

-- The entries of an object's keys; another tree has none.
abbrev pub key_trees : Tree → List Tree
key_trees (object ps) = map text (keys ps)
key_trees _ = []

-- The entries of a container without the value at this location in its child at position n; without that child, if the
-- location is empty.
abbrev pub entries_kept : Tree → ℕ → Tree → List ℕ → List Tree
entries_kept t n child [] = remove (key_trees t) n ++ (take n (children t) ++ drop (suc n) (children t))
entries_kept t n child (m ∷ ns) =
    key_trees t ++ (take n (children t) ++ change_child m (remove_at ns) child ∷ drop (suc n) (children t))

-- The number of children that the container keeps, of this many others than the one at n: that one too, if only a value
-- within it goes.
abbrev pub count_kept : ℕ → List ℕ → ℕ
count_kept others [] = others
count_kept others (m ∷ ns) = others + 1

-- Holds if these are the entries of a container of this tree, around its child at position n.
pub record IsParent (form : Form) (p : ParentEntries) (t : Tree) (n : ℕ) (child : Tree) : Type 0 where
  pub keys_hold : HoldTrees form p.keys (key_trees t)
  pub front_hold : HoldTrees form p.front (take n (children t))
  pub after_hold : HoldTrees form p.after (drop (suc n) (children t))
  pub passed : n ≡ length (take n (children t))
  pub makes : (ns : List ℕ)
      → Make p.kind (count_kept p.others ns) (entries_kept t n child ns) (change_child n (remove_at ns) t)

-- Holds if the first of these containers is the tree `t`, each other one is the child of the one before it at one of
-- these positions, and `end` is the child of the last.
abbrev pub LeadTo : Form → List ParentEntries → List ℕ → Tree → Tree → Type 0
LeadTo form [] [] t end = t ≡ end
LeadTo form (p ∷ ps) (n ∷ ns) t end = (child : Tree) × IsParent form p t n child × LeadTo form ps ns child end
LeadTo form _ _ t end = ⊥

abbrev pub Leads : Form → List ParentEntries → List ℕ → Tree → Type 0
Leads form ps ns t = (end : Tree) × LeadTo form ps ns t end

-- ---- a step

-- Holds if the entry is of this tree; the root of a document counts as the entry of a container.
pub record HoldsValue (form : Form) (entry : StoredEntry) (t : Tree) : Type 0 where
  pub container : kind_number entry.kind ≡ container_entry → Decodes form entry.content.now t
  pub scalar : (kind_number entry.kind ≡ container_entry → ⊥) → children_of t ≡ None

-- Holds if these are the entries around the child that a step selects, and the child, or `None` and it selects nothing.
abbrev pub StepsInto : Form → Tree → Key → Option (ParentEntries × StoredEntry) → Type 0
StepsInto form t step None = option_and_then (λ n. slice_get (children t) n) (child_position step t) ≡ None
StepsInto form t step (Some found) =
    (n : ℕ) × (child : Tree) × (child_position step t ≡ Some n) × (slice_get (children t) n ≡ Some child)
    × IsParent form found.0 t n child × HoldsValue form found.1 child

-- ---- numbers of bytes

-- The number of children that a container keeps, by the containers within it that lead to the value: only the innermost
-- one loses a child.
abbrev pub children_kept : ParentEntries → List ParentEntries → ℕ
children_kept p [] = p.others
children_kept p (q ∷ qs) = p.others + 1

-- The number of bytes of the keys and of the other children.
abbrev pub contents_size : ParentEntries → ℕ
contents_size p = length p.keys.contents.now + (length p.front.contents.now + length p.after.contents.now)

-- The number of bytes of the container without the content of the child.
abbrev pub size : ParentEntries → ℕ
size p = head_size p.kind (p.others + 1) + contents_size p

abbrev pub sizes : List ParentEntries → ℕ
sizes [] = 0
sizes (p ∷ ps) = size p + sizes ps

-- Holds if the containers within the outermost one are short enough for an entry, with this many bytes in the child of
-- the innermost one.
abbrev pub AreShort : List ParentEntries → ℕ → Type 0
AreShort [] len = ⊤
AreShort (p ∷ ps) len = sizes ps + len < 2 ^ 28

-- ---- containers that are open

-- The containers around, the innermost first, each with the trees that come after it.
abbrev pub AreLeft : Form → List Outer → Around → Type 0
AreLeft form os ls = AllZip (λ o l. (ts : List Tree) × HoldTrees form o.after ts × (l ≡ (o.open, ts))) os ls

-- The containers around, the innermost first, each with the number of bytes that come after it.
abbrev pub rooms_after : List Outer → Rooms
rooms_after os = map (λ o. (o.open, length o.after.contents.now)) os

-- Holds if what is written becomes the whole with the values that are left in the containers around, of which the `Vec`
-- holds the innermost last.
pub record IsClosing (form : Form) (w : Writer) (around : List Outer) (whole : Tree) : Type 0 where
  pub outside : Around
  pub are_left : AreLeft form (reverse around) outside
  pub writing : IsWriting form w [] outside whole
