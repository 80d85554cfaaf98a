-- Results of walks along two containers, and the children that they leave.
use Rattle.std.specs.Prelude.{◌≡◌, ℕ, ◌<◌, ◌≤◌, ◌||◌, Bool, true, false, List, ◌++◌, take, Option, Some, None, IfSome, ⊤}
use Rattle.std.specs.List.{list_any}
use Rattle.jsonb_doc.specs.Tree.{Tree, Trees, elements}
use Rattle.jsonb_doc.specs.Payload.{Form, number_of}
use Rattle.jsonb_doc.specs.Item.{StandsFor}
use Rattle.jsonb_doc.specs.AnyBytes.Items.{item_size}
use Rattle.jsonb_doc.specs.Private.Short.{short_value}
use Rattle.jsonb_doc.specs.Private.Stored.{HasEntriesLeft, Stores, entries_room}
use Rattle.jsonb_doc.specs.Kinds.{kind_number}
use Rattle.jsonb_doc.specs.declared.short_number.ShortNumber.{ShortNumber}
use Rattle.jsonb_doc.specs.declared.entry_iter.StoredEntry.{StoredEntry}
use Rattle.jsonb_doc.specs.declared.cursor.Entries.{Entries}
use Rattle.jsonb_raw.specs.Contains.{is_part_of}
use Rattle.jsonb_raw.specs.declared.compared.Compared.{Compared}
use Rattle.jsonb_raw.specs.declared.functions.operator.contains.EntryPrefix.{EntryPrefix}
use Rattle.jsonb_raw.specs.declared.compared.Compared.TheVariants.{Known, Deferred}

-- the result of a test for two trees is the known one, or that for the two children
abbrev pub Decides : (Tree → Tree → Bool) → Form → Form → Compared → Bool → Type 0
Decides test form other_form (Known b) answer = b ≡ answer
Decides test form other_form (Deferred x y) answer =
    (t : Tree) × (u : Tree) × StandsFor form x t × StandsFor other_form y u × (test t u ≡ answer)

-- the first of the parts is shorter than this
abbrev pub IsShorter : Compared → ℕ → Type 0
IsShorter (Known b) len = ⊤
IsShorter (Deferred x y) len = item_size x < len

-- the first of the parts is shorter than the one length, and the second than the other
abbrev pub IsWithin : Compared → ℕ → ℕ → Type 0
IsWithin (Known b) len other_len = ⊤
IsWithin (Deferred x y) len other_len = (item_size x < len) × (item_size y < other_len)

-- the first tree matches the second
abbrev pub matches : Tree → Tree → Bool
matches x y = is_part_of y x

-- the entry is this number, if it is given
pub record IsShortOf (entry : StoredEntry) (short : Option ShortNumber) : Type 0 where
  pub kind : IfSome short (λ n. kind_number entry.kind ≡ 2)
  pub number : IfSome short (λ n. number_of entry.content.now ≡ Some (short_value n))

-- what is left afterwards was left before
pub record PassesOver (before after : Entries) : Type 0 where
  pub others : (form : Form) (ts : Trees) → HasEntriesLeft form before ts
      → (us : Trees) × HasEntriesLeft form after us
      × ((test : Tree → Bool) → list_any test (elements us) ≡ true → list_any test (elements ts) ≡ true)

-- what is left in the second was the last that is left in the first
pub record IsTailOf (all left : Entries) : Type 0 where
  pub room : entries_room left ≤ entries_room all
  pub last : (form : Form) (ts : Trees) → HasEntriesLeft form all ts
      → (us : Trees) × HasEntriesLeft form left us × ((front : List Tree) × (elements ts ≡ front ++ elements us))

-- the result of the test for the entry that was put aside, and false if there is none
abbrev pub IsOneAnswer : (Tree → Bool) → Form → Option StoredEntry → Bool → Type 0
IsOneAnswer test form None b = b ≡ false
IsOneAnswer test form (Some entry) b = (t : Tree) × Stores form entry t × (test t ≡ b)

-- a search finds that the test holds of one, or leaves that to the entry that was put aside
abbrev pub FindsOne : (Tree → Bool) → Form → Bool → Option Entries → Option StoredEntry → Type 0
FindsOne test form whole (Some rest) large = whole ≡ true
FindsOne test form whole None large = IsOneAnswer test form large whole

-- one of the trees is among the first entries of the one part, or among those of the other
abbrev pub ArePartsOf : Form → Trees → EntryPrefix → EntryPrefix → Type 0
ArePartsOf form xs first second =
    (ts : Trees) × (us : Trees) × HasEntriesLeft form first.entries ts × HasEntriesLeft form second.entries us
    × ((test : Tree → Bool)
    → (list_any test (take second.count (elements us)) || (list_any test (take first.count (elements ts)) || false))
    ≡ list_any test (elements xs))
