-- The iterator over the stored entries of a container.
use Rattle.std.specs.Prelude.{◌≡◌, ℕ, ◌≤◌, List, [], length, map, Option, Some, None, Result, Ok, Err, IfSome, IfNone, IfOk, IfErr}
use Rattle.std.specs.Borrow.{Bor}
use Rattle.jsonb_doc.specs.Tree.{Tree, text, Trees, no_trees, tree, trees_of, Pairs, no_pairs, pair, keys, values}
use Rattle.jsonb_doc.specs.Payload.{Form, number_reader}
use Rattle.jsonb_doc.specs.Format.{BeginWith, IsContent, AreEntries, AreKeys}
use Rattle.jsonb_doc.specs.AnyBytes.Parts.{BeginWithNone, words_left}
use Rattle.jsonb_doc.specs.Kinds.{kind_number}
use Rattle.jsonb_doc.specs.Answer.{IsDecodingError}
use Rattle.jsonb_doc.specs.declared.cursor.Entries.{Entries}
use Rattle.jsonb_doc.specs.declared.cursor.PairEntries.{PairEntries}
use Rattle.jsonb_doc.specs.declared.entry_iter.StoredEntry.{StoredEntry}
use Rattle.jsonb_doc.specs.declared.error.Error.{Error}

-- the entries of these trees are left in the iterator
pub record HasEntriesLeft (form : Form) (it : Entries) (ts : Trees) : Type 0 where
  pub entries : AreEntries (number_reader form) ts it.words.now it.contents.now

-- the entry stores the tree
pub record Stores (form : Form) (e : StoredEntry) (t : Tree) : Type 0 where
  pub content : IsContent (number_reader form) t (kind_number e.kind) e.content.now

-- an upper bound of the number of entries that the iterator yields, on any bytes
abbrev pub entries_bound : Entries → ℕ
entries_bound it = words_left it.words.now

-- an upper bound of the length of an entry of the iterator, on any bytes
abbrev pub entries_room : Entries → ℕ
entries_room it = length it.contents.now

-- the result is the entry of the first of the trees, and the others remain
abbrev pub TakesEntry : Form → Trees → Option (Result StoredEntry Error) → Entries → Type 0
TakesEntry form no_trees None after = HasEntriesLeft form after no_trees
TakesEntry form (tree t ts) (Some (Ok entry)) after = Stores form entry t × HasEntriesLeft form after ts
TakesEntry form _ _ after = ⊥

-- What is read, on any bytes: the first of the remaining entries, or an error if they do not begin with one.
abbrev pub ReadsEntry : Entries → Option (Result StoredEntry Error) → Entries → Type 0
ReadsEntry before None after = before.words.now ≡ []
ReadsEntry before (Some (Ok e)) after =
    BeginWith before.words.now before.contents.now (kind_number e.kind) e.content.now
    after.words.now after.contents.now
ReadsEntry before (Some (Err e)) after = BeginWithNone before.words.now before.contents.now × (after.words.now ≡ [])

-- What a call of `next` does. On any bytes it yields an entry, an error or `None`, and after `None` nothing more.
pub record GivesEntry (before : Entries) (r : Option (Result StoredEntry Error)) (after : Entries) : Type 0 where
  pub reads : ReadsEntry before r after
  pub takes : (form : Form) (ts : Trees) → HasEntriesLeft form before ts → TakesEntry form ts r after
  pub errors : IfSome r (λ x. IfErr x IsDecodingError)
  pub ended : IfNone r (entries_bound after ≡ 0)
  pub size : IfSome r (λ x. IfOk x (λ entry. length entry.content.now ≤ entries_room before))
  pub room : entries_room after ≤ entries_room before

-- ---- pairs

-- keys as strings
abbrev pub key_trees : List (List ℕ) → Trees
key_trees ks = trees_of (map text ks)

-- the entries of these pairs are left in the iterator
pub record HasPairEntriesLeft (form : Form) (it : PairEntries) (ps : Pairs) : Type 0 where
  pub are_keys : AreKeys (keys ps)
  pub names : HasEntriesLeft form it.keys (key_trees (keys ps))
  pub parts : HasEntriesLeft form it.values (values ps)

-- the result is the key and the entry of the first of the members, and the others remain
abbrev pub TakesPairEntry : Form → Pairs → Option (Result (Bor (List ℕ) × StoredEntry) Error) → PairEntries → Type 0
TakesPairEntry form no_pairs None after = HasPairEntriesLeft form after no_pairs
TakesPairEntry form (pair key t ps) (Some (Ok given)) after =
    (given.0.now ≡ key) × Stores form given.1 t × HasPairEntriesLeft form after ps
TakesPairEntry form _ _ after = ⊥

-- What a call of `next` does. On any bytes it yields a member, an error or `None`, and after `None` nothing more.
pub record GivesPairEntry (before : PairEntries) (r : Option (Result (Bor (List ℕ) × StoredEntry) Error))
    (after : PairEntries) : Type 0 where
  pub takes : (form : Form) (ps : Pairs) → HasPairEntriesLeft form before ps → TakesPairEntry form ps r after
  pub errors : IfSome r (λ x. IfErr x IsDecodingError)
  pub ended : IfNone r (entries_bound after.keys ≡ 0)
  pub size : IfSome r (λ x. IfOk x (λ given. length given.1.content.now ≤ entries_room before.values))
  pub room : entries_room after.values ≤ entries_room before.values
