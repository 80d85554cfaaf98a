-- What a table of the equality keys of elements says of a value.
use Rattle.std.specs.Prelude.{◌≡◌, Bool, true, false, List, Option, IfSome}
use Rattle.std.specs.List.{AllByRecursion, list_any}
use Rattle.jsonb_doc.specs.Tree.{Tree, Trees, array, elements}
use Rattle.jsonb_doc.specs.Equal.{is_equal}
use Rattle.jsonb_doc.specs.Limits.{Fits}
use Rattle.jsonb_doc.specs.Payload.{Form}
use Rattle.jsonb_doc.specs.Private.Stored.{HasEntriesLeft}
use Rattle.jsonb_doc.specs.declared.cursor.Entries.{Entries}
use Rattle.jsonb_raw.specs.Contains.{is_part_of}
use Rattle.jsonb_raw.specs.Private.SetCounts.{CountsKeys}
use Rattle.jsonb_raw.specs.Private.StartHints.{is_container}
use Rattle.jsonb_raw.specs.declared.functions.array.key_table.KeyTable.{KeyTable}

-- the table has the keys of some of these trees, among them all scalars
pub record HasKeysOf (table : KeyTable) (ts : List Tree) : Type 0 where
  pub kept : List Tree
  pub counts : CountsKeys table.keys kept
  pub fit : AllByRecursion Fits kept
  pub only : (t : Tree) → list_any (is_equal t) kept ≡ true → list_any (is_equal t) ts ≡ true
  pub scalars : (t : Tree) → is_container t ≡ false → list_any (is_equal t) ts ≡ true
      → list_any (is_equal t) kept ≡ true

-- if the result is true, one of these trees matches the tree, and if the tree is a scalar, only then
abbrev pub TellsMatch : Tree → List Tree → Bool → Type 0
TellsMatch t ts b = (b ≡ true → list_any (is_part_of t) ts ≡ true)
    × (is_container t ≡ false → b ≡ list_any (is_part_of t) ts)

-- the table, if there is one, has keys of what is left
abbrev pub HasTableOf : Entries → Option KeyTable → Type 0
HasTableOf all table = IfSome table
    (λ found. (form : Form) (ts : Trees) → HasEntriesLeft form all ts → Fits (array ts) → HasKeysOf found (elements ts))
