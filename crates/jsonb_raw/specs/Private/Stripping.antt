-- Containers that are written again without the nulls of their objects.
use Rattle.std.specs.Prelude.{◌≡◌, ℕ, Bool, true, false, List, [], ◌∷◌, ◌++◌, map, Option, Some, None, if◌then◌else◌, reverse, ⊤}
use Rattle.std.specs.Borrow.{Bor}
use Rattle.std.specs.List.{AllZip}
use Rattle.jsonb_doc.specs.Tree.{Tree, text, array, object, elements, values, keys, trees_of}
use Rattle.jsonb_doc.specs.Payload.{Form, number_reader}
use Rattle.jsonb_doc.specs.Format.{IsContent, AreEntries, IsBelowFirst}
use Rattle.jsonb_doc.specs.Private.EntryKinds.{container_entry}
use Rattle.jsonb_doc.specs.Private.Writer.{Around, IsWriting}
use Rattle.jsonb_doc.specs.declared.cursor.Entries.{Entries}
use Rattle.jsonb_doc.specs.declared.rewriting.Writer.{Writer}
use Rattle.jsonb_raw.specs.declared.functions.operator.stripping.ValuesLeft.{ValuesLeft}
use Rattle.jsonb_raw.specs.declared.functions.operator.stripping.Outer.{Outer}
use Rattle.jsonb_raw.specs.Private.Entries.{HoldTrees}
use Rattle.jsonb_raw.specs.Scalars.{is_null}
use Rattle.jsonb_raw.specs.Strip.{strip, strip_pairs}

-- Holds if the keys are above the last one before them, if there is one.
abbrev pub IsAboveLast : Option (Bor (List ℕ)) → List (List ℕ) → Type 0
IsAboveLast None ks = ⊤
IsAboveLast (Some last) ks = IsBelowFirst last.now ks

-- Holds if these are the entry words of these trees.
pub record WordsHold (form : Form) (words : List ℕ) (ts : List Tree) : Type 0 where
  pub contents : List ℕ
  pub entries : AreEntries (number_reader form) (trees_of ts) words contents

-- Whether a value is left out, of an object or not, that is null or not.
abbrev pub leaves_out : Bool → Bool → Bool
leaves_out true is_none = is_none
leaves_out false is_none = false

-- The trees that stay, without the nulls within them.
abbrev pub stripped : Bool → List Tree → List Tree
stripped is_object [] = []
stripped is_object (t ∷ ts) =
    if leaves_out is_object (is_null t) then stripped is_object ts else strip t ∷ stripped is_object ts

-- The keys of the trees that are not null.
abbrev pub beside : List Tree → List (List ℕ) → List (List ℕ)
beside (t ∷ ts) (key ∷ ks) = if is_null t then beside ts ks else key ∷ beside ts ks
beside _ _ = []

-- The elements or values of a container that stay.
abbrev pub values_kept : Tree → List Tree
values_kept (array ts) = stripped false (elements ts)
values_kept (object ps) = stripped true (elements (values ps))
values_kept _ = []

-- The entries that stay, an object's keys before its values.
abbrev pub entries_kept : Tree → List Tree
entries_kept (object ps) = map text (keys (strip_pairs ps)) ++ values_kept (object ps)
entries_kept t = values_kept t

-- Whether a tree changes: it is a container, or left out.
abbrev pub stops : Bool → Tree → Bool
stops is_object (array ts) = true
stops is_object (object ps) = true
stops is_object t = leaves_out is_object (is_null t)

-- Holds if all values of a container are left.
pub record HoldValues (form : Form) (left : ValuesLeft) (t : Tree) : Type 0 where
  pub trees : List Tree
  pub holds : HoldTrees form left.entries trees
  pub kept : stripped left.is_object trees ≡ values_kept t

-- Holds if the values that are left, without nulls, are what the innermost container still gets.
pub record Begins (form : Form) (left : ValuesLeft) (w : Writer) (around : Around) (whole : Tree) : Type 0 where
  pub trees : List Tree
  pub holds : HoldTrees form left.entries trees
  pub writing : IsWriting form w (stripped left.is_object trees) around whole

-- Holds if this is the content of the next container and the entries after it, or `None` and nothing is left.
abbrev pub AreWritten : Form → Bool → Writer → Around → Tree → Option (Bor (List ℕ) × Entries) → Type 0
AreWritten form is_object w around whole None = IsWriting form w [] around whole
AreWritten form is_object w around whole (Some found) =
    (t : Tree) × (ts : List Tree) × IsContent (number_reader form) t container_entry found.0.now
    × HoldTrees form found.1 ts × IsWriting form w (strip t ∷ stripped is_object ts) around whole

-- The containers around, the innermost first, each with the trees that come after it.
abbrev pub AreLeft : Form → List Outer → Around → Type 0
AreLeft form os ls = AllZip
    (λ o l. (ts : List Tree) × HoldTrees form o.left.entries ts × (l ≡ (o.open, stripped o.left.is_object ts))) os ls

-- Holds if what is written becomes the whole with the values that are left without nulls, here and in the containers
-- around, of which the `Vec` holds the innermost last.
pub record IsStripping (form : Form) (w : Writer) (left : ValuesLeft) (around : List Outer) (whole : Tree) : Type 0 where
  pub outside : Around
  pub are_left : AreLeft form (reverse around) outside
  pub begun : Begins form left w outside whole
