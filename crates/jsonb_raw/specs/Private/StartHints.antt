-- Where searches in a list of entries begin.
use Rattle.std.specs.Prelude.{◌≡◌, Bool, true, false, ◌&&◌, ◌||◌, List, Option, Some, None, Result, IsOkAnd}
use Rattle.std.specs.List.{AllByRecursion, list_any, All}
use Rattle.jsonb_doc.specs.Tree.{Tree, array, object, Trees, no_trees, tree, elements}
use Rattle.jsonb_doc.specs.Limits.{Fits}
use Rattle.jsonb_doc.specs.Payload.{Form}
use Rattle.jsonb_doc.specs.Private.Stored.{HasEntriesLeft}
use Rattle.jsonb_doc.specs.declared.cursor.Entries.{Entries}
use Rattle.jsonb_doc.specs.declared.error.Error.{Error}
use Rattle.jsonb_raw.specs.Contains.{is_part_of}
use Rattle.jsonb_raw.specs.Private.Compared.{PassesOver}
use Rattle.jsonb_raw.specs.Private.EntryStarts.{BeginAt}
use Rattle.jsonb_raw.specs.declared.entry_start.EntryStart.{EntryStart}
use Rattle.jsonb_raw.specs.declared.functions.operator.starts.StartSlot.{StartSlot}

-- what begins there is left of all
pub record IsHint (all : Entries) (start : EntryStart) : Type 0 where
  pub passes : (left : Entries) → BeginAt start all left → PassesOver all left

-- searches may begin at each start of these slots
abbrev pub AreHints : Entries → List StartSlot → Type 0
AreHints all slots = All (λ slot. IsHint all slot.start) slots

abbrev pub is_container : Tree → Bool
is_container (array ts) = true
is_container (object ps) = true
is_container _ = false

-- each scalar element by one of these
abbrev pub scalars_matched : Trees → List Tree → Bool
scalars_matched no_trees xs = true
scalars_matched (tree y ys) xs = (is_container y || list_any (is_part_of y) xs) && scalars_matched ys xs

-- whether each scalar element is one of these, or the entries that are left, which decide it
abbrev pub DecideMatched : Form → Entries → Trees → List Tree → Option Bool → Type 0
DecideMatched form rest ys xs (Some b) = b ≡ scalars_matched ys xs
DecideMatched form rest ys xs None =
    (left : Trees) × HasEntriesLeft form rest left × AllByRecursion Fits (elements left)
    × (scalars_matched left xs ≡ scalars_matched ys xs)

-- the result for a block of the given entries
abbrev pub TellsMatched : Entries → Entries → Entries → Result (Option Bool) Error → Type 0
TellsMatched all before after result = (form other_form : Form) (xs ys : Trees)
    → HasEntriesLeft form all xs → HasEntriesLeft other_form before ys → AllByRecursion Fits (elements ys)
    → IsOkAnd result (DecideMatched other_form after ys (elements xs))
