-- Whether two lists of entries share a value, by blocks of hashes.
use Rattle.std.specs.Prelude.{◌≡◌, ◌<◌, ℕ, Bool, List, drop, Option, Some, None, Result, IsOkAnd, IfOk}
use Rattle.jsonb_doc.specs.Tree.{Tree, Trees, elements}
use Rattle.jsonb_doc.specs.Payload.{Form}
use Rattle.jsonb_doc.specs.Private.Stored.{HasEntriesLeft, entries_bound}
use Rattle.jsonb_doc.specs.declared.cursor.Entries.{Entries}
use Rattle.jsonb_doc.specs.declared.error.Error.{Error}
use Rattle.jsonb_raw.specs.Sets.{overlap}

-- whether both lists overlap, or the entries that are left of the second one, which decide it
abbrev pub DecideOverlap : Form → Entries → List Tree → List Tree → Option Bool → Type 0
DecideOverlap form rest ts us (Some b) = b ≡ overlap ts us
DecideOverlap form rest ts us None =
    (n : ℕ) × (left : Trees) × HasEntriesLeft form rest left × (elements left ≡ drop n us)
    × (overlap ts (elements left) ≡ overlap ts us)

-- the result for a block of the second list
abbrev pub TellsOverlap : Entries → Entries → Entries → Result (Option Bool) Error → Type 0
TellsOverlap found before after result = (form other_form : Form) (ts us : Trees)
    → HasEntriesLeft form found ts → HasEntriesLeft other_form before us
    → IsOkAnd result (DecideOverlap other_form after (elements ts) (elements us))

-- fewer entries are left after a block that does not decide
abbrev pub IsFewerLeft : Entries → Entries → Result (Option Bool) Error → Type 0
IsFewerLeft before after result = IfOk result (λ told. told ≡ None → entries_bound after < entries_bound before)
