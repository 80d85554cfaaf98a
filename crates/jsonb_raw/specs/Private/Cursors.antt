-- Looking up names among the strings of a document.
use Rattle.std.specs.Prelude.{◌≡◌, ℕ, Bool, true, false, List, length, drop, Option, Some, None, ⊤}
use Rattle.std.specs.Borrow.{Bor}
use Rattle.std.specs.List.{list_any, All}
use Rattle.std.specs.Ordering.{nat_cmp}
use Rattle.std.specs.Cmp.Lexicographic.{slice_cmp}
use Rattle.std.specs.Str.{bytes_eq}
use Rattle.std.specs.declared.cmp.Ordering.TheVariants.{Less}
use Rattle.jsonb_doc.specs.Tree.{Tree, array, object, Trees, Pairs, keys}
use Rattle.jsonb_doc.specs.Payload.{Form}
use Rattle.jsonb_doc.specs.Format.{AreKeys, IsBelowFirst}
use Rattle.jsonb_doc.specs.Private.Stored.{HasEntriesLeft, key_trees}
use Rattle.jsonb_raw.specs.Private.EntryStarts.{AreLast}
use Rattle.jsonb_raw.specs.Exists.{has_text, has_all, has_any}
use Rattle.jsonb_doc.specs.declared.cursor.Entries.{Entries}
use Rattle.jsonb_raw.specs.declared.entry_start.EntryStart.{EntryStart}
use Rattle.jsonb_raw.specs.declared.functions.path.exists.KeyCursor.{KeyCursor}
use Rattle.jsonb_raw.specs.declared.functions.path.exists.KeyTable.{KeyTable}
use Rattle.jsonb_raw.specs.declared.functions.path.exists.Texts.{Texts}
use Rattle.jsonb_raw.specs.declared.functions.path.exists.Texts.TheVariants.{Keys, Elements, Root}

-- the key that was visited last, if there is one, is less than the name
abbrev pub IsPassed : Option (Bor (List ℕ)) → List ℕ → Type 0
IsPassed None name = ⊤
IsPassed (Some key) name = slice_cmp nat_cmp key.now name ≡ Less

-- and below the first of these
abbrev pub IsBefore : Option (Bor (List ℕ)) → List (List ℕ) → Type 0
IsBefore None ks = ⊤
IsBefore (Some key) ks = IsBelowFirst key.now ks

-- The cursor is among these keys. Names greater than the one visited last are looked up after it.
pub record IsCursorOf (form : Form) (c : KeyCursor) (ks : List (List ℕ)) : Type 0 where
  pub all_keys : AreKeys ks
  pub all : HasEntriesLeft form c.all (key_trees ks)
  pub behind : List (List ℕ)
  pub are_keys : AreKeys behind
  pub left : HasEntriesLeft form c.left (key_trees behind)
  pub before : IsBefore c.last_key behind
  pub decides : (name : List ℕ) → IsPassed c.last_key name
      → list_any (λ key. bytes_eq key name) behind ≡ list_any (λ key. bytes_eq key name) ks

-- the remaining keys are the last of all
abbrev pub IsWithinAll : KeyCursor → Type 0
IsWithinAll c = AreLast c.all c.left

-- A block begins there: what follows that many bytes of words and contents is what a cursor has left.
pub record IsBlockStart (form : Form) (all : Entries) (ks : List (List ℕ)) (start : EntryStart) : Type 0 where
  pub cursor : KeyCursor
  pub is_cursor : IsCursorOf form cursor ks
  pub words : drop start.words all.words.now ≡ cursor.left.words.now
  pub contents : drop start.contents all.contents.now ≡ cursor.left.contents.now

-- The table is one of these keys: so is the cursor at which the last search ended, and each start is one of a block.
pub record IsTableOf (form : Form) (s : KeyTable) (ks : List (List ℕ)) : Type 0 where
  pub all : HasEntriesLeft form s.all (key_trees ks)
  pub near : IsCursorOf form s.near ks
  pub starts : All (IsBlockStart form s.all ks) s.starts
  pub size : length s.starts ≡ 512

-- whether the root, if it is a string, is the name
abbrev pub is_root : Option (Bor (List ℕ)) → List ℕ → Bool
is_root None name = false
is_root (Some root) name = bytes_eq root.now name

-- the root, if it is a string, is the only string of the tree
abbrev pub HoldsRoot : Option (Bor (List ℕ)) → Tree → Type 0
HoldsRoot root t = (name : List ℕ) → has_text name t ≡ is_root root name

-- these are the strings of the tree
abbrev pub HoldsTexts : Form → Texts → Tree → Type 0
HoldsTexts form (Keys keys_left) t =
    (ps : Pairs) × (t ≡ object ps) × AreKeys (keys ps) × HasEntriesLeft form keys_left (key_trees (keys ps))
HoldsTexts form (Elements entries) t = (ts : Trees) × (t ≡ array ts) × HasEntriesLeft form entries ts
HoldsTexts form (Root root) t = HoldsRoot root t

-- the tree has one of the names, if that decides, or otherwise each of them
abbrev pub has_by : Bool → List (List ℕ) → Tree → Bool
has_by true names t = has_any names t
has_by false names t = has_all names t
