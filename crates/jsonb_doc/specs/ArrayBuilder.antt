-- What an array's builder holds.
use Rattle.std.specs.Prelude.{ℕ, ◌+◌, ◌/◌, ◌^◌, ◌≤◌, ◌⊎◌, List, [], ◌∷◌, ◌++◌, length, Result}
use Rattle.jsonb_doc.specs.declared.error.Error.{Error}
use Rattle.jsonb_doc.specs.Tree.{Tree, array, trees_of}
use Rattle.jsonb_doc.specs.Limits.{Builds}
use Rattle.jsonb_doc.specs.Payload.{Form, number_reader}
use Rattle.jsonb_doc.specs.Format.{AreEntries}
use Rattle.jsonb_doc.specs.Encoding.{IsTooLong, item_word, item_content}
use Rattle.jsonb_doc.specs.declared.item.Item.{Item}

-- Entry words, and the contents after them.
pub record Parts : Type 0 where
  pub words : List ℕ
  pub contents : List ℕ

abbrev pub no_parts : Parts
no_parts = record { words = []; contents = [] }

-- The number of entries.
abbrev pub entry_count : Parts → ℕ
entry_count parts = length parts.words / 4

-- The parts with one more entry after the others, that of the item.
abbrev pub add_entry : Parts → Item → Parts
add_entry parts item = record { words = parts.words ++ item_word item; contents = parts.contents ++ item_content item }

-- Holds if the builder holds the trees, in order.
abbrev pub HoldsElements : Form → Parts → List Tree → Type 0
HoldsElements form parts ts = AreEntries (number_reader form) (trees_of ts) parts.words parts.contents

-- Holds if the builder then holds these trees, or an allocation failed, or the array is too large.
abbrev pub PushesElement : Form → List Tree → Result (Unit {0}) Error → Parts → Type 0
PushesElement form ts answer after = Builds form (array (trees_of ts)) answer (λ _. HoldsElements form after ts)

-- Holds if one more entry for the item exceeds the limits.
abbrev pub IsTooLargeElement : Parts → Item → Type 0
IsTooLargeElement parts item = IsTooLong (item_content item) ⊎ (2 ^ 29 ≤ entry_count parts + 1)
