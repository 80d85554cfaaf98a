-- Entries of containers in runs, as they are stored.
use Rattle.std.specs.Prelude.{◌≡◌, ℕ, ◌+◌, ◌*◌, ◌^◌, ◌<◌, ◌≤◌, List, [], ◌∷◌, ◌++◌, length, map, Option, Some, None, ⊤}
use Rattle.std.specs.Map.{keys_of, values_of}
use Rattle.jsonb_doc.specs.Tree.{Tree, no_trees, tree, text, array, object, elements, keys, members, trees_of}
use Rattle.jsonb_doc.specs.Payload.{Form, number_reader}
use Rattle.jsonb_doc.specs.Format.{AreEntries, AreKeys}
use Rattle.jsonb_doc.specs.Private.EntryKinds.{text_entry}
pub use Rattle.jsonb_doc.specs.Private.Cursor.{HoldTrees, IsFirst, TakesFirst, RunsHold}
use Rattle.jsonb_doc.specs.Private.Writer.{head_size}
use Rattle.jsonb_doc.specs.Limits.{IsShort}
use Rattle.jsonb_doc.specs.Kinds.{kind_number}
use Rattle.jsonb_doc.specs.declared.error.Error.{Error}
use Rattle.jsonb_doc.specs.declared.error.Error.TheVariants.{TooLarge}
use Rattle.jsonb_raw.specs.Arrays.{as_elements}
use Rattle.jsonb_doc.specs.declared.cursor.Entries.{Entries}
use Rattle.jsonb_raw.specs.declared.functions.parts.EntryWithWord.{EntryWithWord}
use Rattle.jsonb_doc.specs.declared.cursor.PairEntries.{PairEntries}
use Rattle.jsonb_raw.specs.declared.functions.parts.FirstPair.{FirstPair}
use Rattle.jsonb_raw.specs.declared.functions.parts.PairRuns.{PairRuns}
use Rattle.jsonb_raw.specs.declared.functions.parts.Elements.{Elements}
use Rattle.jsonb_raw.specs.declared.functions.parts.Elements.TheVariants.{Array, Root}
use Rattle.jsonb_raw.specs.declared.functions.parts.ContainerEntries.{ContainerEntries}
use Rattle.jsonb_doc.specs.declared.layout.HeaderKind.TheVariants as header_kind

-- the entries of an array, none of another tree
abbrev pub AreElementsOf : Form → Tree → Option Entries → Type 0
AreElementsOf form (array ts) (Some run) = HoldTrees form run (elements ts)
AreElementsOf form (array ts) None = ⊥
AreElementsOf form _ (Some run) = ⊥
AreElementsOf form _ None = ⊤

-- ---- what a document adds to an array

-- the entry is one of this tree
pub record HoldsTree (form : Form) (entry : EntryWithWord) (t : Tree) : Type 0 where
  pub entries : AreEntries (number_reader form) (tree t no_trees) entry.word entry.content.now

-- the entries are those of these trees
abbrev pub HoldElements : Form → Elements → List Tree → Type 0
HoldElements form (Array run) ts = HoldTrees form run ts
HoldElements form (Root entry) ts = (t : Tree) × (ts ≡ t ∷ []) × HoldsTree form entry t

-- the tree is too long for an entry
abbrev pub IsTooLongRoot : Form → Tree → Error → Type 0
IsTooLongRoot form t e = (e ≡ TooLarge) × (IsShort form t → ⊥)

-- Holds if a tree that is not an array is too long for an element.
abbrev pub IsTooLongElement : Form → Tree → Error → Type 0
IsTooLongElement form t e = IsTooLongRoot form t e × (as_elements t ≡ t ∷ [])

-- ---- pairs

-- the entries are those of the keys of these pairs, and of their values
pub record HoldPairs (form : Form) (run : PairEntries) (ps : List (List ℕ × Tree)) : Type 0 where
  pub names : HoldTrees form run.keys (map text (keys_of ps))
  pub parts : HoldTrees form run.values (values_of ps)

-- the entries of an object's pairs, none of another tree
abbrev pub ArePairsOf : Form → Tree → Option PairEntries → Type 0
ArePairsOf form (object ps) (Some run) = HoldPairs form run (members ps)
ArePairsOf form (object ps) None = ⊥
ArePairsOf form _ (Some run) = ⊥
ArePairsOf form _ None = ⊤

-- the run begins with a pair, and the others follow
pub record IsFirstPair (form : Form) (run : PairEntries) (p : List ℕ × Tree) (ps : List (List ℕ × Tree))
    (first : FirstPair) : Type 0 where
  pub key : first.key.now ≡ p.0
  pub name : IsFirst form run.keys (text p.0) (map text (keys_of ps)) text_entry p.0 first.others.keys
  pub value : IsFirst form run.values p.1 (values_of ps) (kind_number first.kind) first.content.now first.others.values

abbrev pub TakesFirstPair : Form → PairEntries → List (List ℕ × Tree) → Option FirstPair → Type 0
TakesFirstPair form run [] None = ⊤
TakesFirstPair form run [] (Some first) = ⊥
TakesFirstPair form run (p ∷ ps) None = ⊥
TakesFirstPair form run (p ∷ ps) (Some first) = IsFirstPair form run p ps first

-- ---- runs

-- Holds if the runs hold trees, the run up to what is left of it holds the others of the first trees, and what is left
-- holds the last ones.
pub record Holding (form : Form) (runs : List Entries) (run left : Entries) (xs ys : List Tree) : Type 0 where
  pub before : List Tree
  pub here : List Tree
  pub run_words : List ℕ
  pub run_contents : List ℕ
  pub trees_joined : xs ≡ before ++ here
  pub held : RunsHold form runs before
  pub run_held : AreEntries (number_reader form) (trees_of here) run_words run_contents
  pub words_joined : run.words.now ≡ run_words ++ left.words.now
  pub contents_joined : run.contents.now ≡ run_contents ++ left.contents.now
  pub left_hold : HoldTrees form left ys

-- the runs hold these pairs
pub record PairsHeld (form : Form) (runs : PairRuns) (ps : List (List ℕ × Tree)) : Type 0 where
  pub names : RunsHold form runs.keys.items (map text (keys_of ps))
  pub parts : RunsHold form runs.values.items (values_of ps)

-- Holds if the runs, and the run before what is left of it, hold the first of the members, and the others are left.
pub record PairsOpen (form : Form) (runs : PairRuns) (run left : PairEntries)
    (xs ys : List (List ℕ × Tree)) : Type 0 where
  pub names : Holding form runs.keys.items run.keys left.keys (map text (keys_of xs)) (map text (keys_of ys))
  pub parts : Holding form runs.values.items run.values left.values (values_of xs) (values_of ys)

-- ---- containers

-- Holds if these are the entries of a container of this tree.
abbrev pub AreEntriesOf : Form → Tree → ContainerEntries → Type 0
AreEntriesOf form (array ts) e =
    (e.kind ≡ header_kind.Array) × HoldTrees form e.keys [] × HoldTrees form e.values (elements ts)
AreEntriesOf form (object ps) e =
    (e.kind ≡ header_kind.Object) × AreKeys (keys ps)
    × HoldPairs form (record { keys = e.keys; values = e.values }) (members ps)
AreEntriesOf form _ e = ⊥

-- Holds if these are the entries of a container, or `None` and the tree is not one.
abbrev pub AreContainerEntries : Form → Tree → Option ContainerEntries → Type 0
AreContainerEntries form t (Some e) = AreEntriesOf form t e
AreContainerEntries form (array ts) None = ⊥
AreContainerEntries form (object ps) None = ⊥
AreContainerEntries form _ None = ⊤

-- Holds if a container of this many bytes may have these entries.
pub record AreWithin (len : ℕ) (e : ContainerEntries) : Type 0 where
  pub few : length e.values.words.now < 2 ^ 31
  pub fit : (n : ℕ) → 4 * n ≤ length e.values.words.now
      → head_size e.kind n + (length e.keys.contents.now + length e.values.contents.now) ≤ len
