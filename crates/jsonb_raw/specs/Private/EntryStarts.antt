-- Where the remaining entries of a container begin.
use Rattle.std.specs.Prelude.{◌≡◌, ◌-◌, ◌++◌, ℕ, List, length, drop}
use Rattle.jsonb_doc.specs.declared.cursor.Entries.{Entries}
use Rattle.jsonb_raw.specs.declared.entry_start.EntryStart.{EntryStart}

-- the remaining entries are stored last of all
pub record AreLast (all left : Entries) : Type 0 where
  pub words_before : List ℕ
  pub words : all.words.now ≡ words_before ++ left.words.now
  pub contents_before : List ℕ
  pub contents : all.contents.now ≡ contents_before ++ left.contents.now

-- the remaining entries begin there, if they are the last of all
abbrev pub IsStartOf : EntryStart → Entries → Entries → Type 0
IsStartOf start all left =
    (start.words ≡ length all.words.now - length left.words.now)
    × (start.contents ≡ length all.contents.now - length left.contents.now)

-- the entries are those of all that begin there
abbrev pub BeginAt : EntryStart → Entries → Entries → Type 0
BeginAt start all left =
    (left.words.now ≡ drop start.words all.words.now) × (left.contents.now ≡ drop start.contents all.contents.now)
