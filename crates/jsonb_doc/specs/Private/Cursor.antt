-- Runs of entries as they are stored, and the trees that they hold.
use Rattle.std.specs.Prelude.{◌≡◌, List, [], ◌∷◌, ◌++◌, flat_map, ℕ, Option, Some, None, ⊤}
use Rattle.jsonb_doc.specs.Tree.{Tree, trees_of}
use Rattle.jsonb_doc.specs.Payload.{Form, number_reader}
use Rattle.jsonb_doc.specs.Format.{BeginWith, IsContent}
use Rattle.jsonb_doc.specs.Private.Stored.{HasEntriesLeft}
use Rattle.jsonb_doc.specs.Kinds.{kind_number}
use Rattle.jsonb_doc.specs.declared.entry_iter.StoredEntry.{StoredEntry}
use Rattle.jsonb_doc.specs.declared.cursor.Entries.{Entries}

-- Holds if the words and the contents are those of these trees.
abbrev pub HoldTrees : Form → Entries → List Tree → Type 0
HoldTrees form run ts = HasEntriesLeft form run (trees_of ts)

-- Holds if the run begins with an entry of this tree, of this kind and content, and the others hold the trees after it.
pub record IsFirst (form : Form) (run : Entries) (t : Tree) (ts : List Tree) (kind : ℕ) (content : List ℕ)
    (others : Entries) : Type 0 where
  pub part : IsContent (number_reader form) t kind content
  pub begin : BeginWith run.words.now run.contents.now kind content others.words.now others.contents.now
  pub others_hold : HoldTrees form others ts

-- Holds if this is the first entry of the run and those after it, or `None` and there are no trees.
abbrev pub TakesFirst : Form → Entries → List Tree → Option (StoredEntry × Entries) → Type 0
TakesFirst form run [] None = ⊤
TakesFirst form run [] (Some found) = ⊥
TakesFirst form run (t ∷ ts) None = ⊥
TakesFirst form run (t ∷ ts) (Some found) = IsFirst form run t ts (kind_number found.0.kind) found.0.content.now found.1

-- ---- runs one after the other

-- The words of all runs.
abbrev pub words_of_runs : List Entries → List ℕ
words_of_runs runs = flat_map (λ run. run.words.now) runs

-- The contents of all runs.
abbrev pub contents_of_runs : List Entries → List ℕ
contents_of_runs runs = flat_map (λ run. run.contents.now) runs

-- Holds if the runs, one after the other, hold these trees.
abbrev pub RunsHold : Form → List Entries → List Tree → Type 0
RunsHold form [] ts = ts ≡ []
RunsHold form (run ∷ runs) ts =
    (xs : List Tree) × (ys : List Tree) × HoldTrees form run xs × RunsHold form runs ys × (ts ≡ xs ++ ys)
