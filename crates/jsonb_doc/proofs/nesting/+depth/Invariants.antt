use Rattle.jsonb_doc.proofs.Lemmas.{◌≡◌, ◌*◌, ◌+◌, ◌≤◌, length, max, option_copied, Tree, Trees, Form, number_reader, AreEntries, Decodes, deepest, halvings, IsApart, EntriesLeft}
use Rattle.jsonb_doc.proofs.nesting.+depth.Given as goal

-- calls nest no deeper than the length can be halved
abbrev pub decreases-document_depth : goal.decreases-document_depth
decreases-document_depth l = 2 * halvings (length l.bytes.now) + 1

abbrev pub decreases-entries_depth : goal.decreases-entries_depth
decreases-entries_depth l = 2 * halvings (length l.contents.now + 4)

-- what is left is at this level, and the deepest item is one that was seen or within it
abbrev pub invariant-document_depth-loop-words : goal.invariant-document_depth-loop-words
invariant-document_depth-loop-words l = record {
  left : (form : Form) (t : Tree) → Decodes form l.fn.bytes t → (u : Tree) × Decodes form l.container u × (deepest t ≡ max l.deepest (l.level + deepest u));
  room : l.level + length l.container ≤ length l.fn.bytes;
  bound : l.deepest ≤ length l.fn.bytes;
}

abbrev pub decreases-document_depth-loop-words : goal.decreases-document_depth-loop-words
decreases-document_depth-loop-words l = length l.container

-- the deepest item is one that was seen, or in the large container, or in the entries that are left
abbrev pub invariant-entries_depth-loop-entry : goal.invariant-entries_depth-loop-entry
invariant-entries_depth-loop-entry l = record {
  left : (form : Form) (ts : Trees) → AreEntries (number_reader form) ts l.fn.words l.fn.contents
      → EntriesLeft form ts l.known (option_copied l.large) l.words_left l.contents_left;
  apart : IsApart (option_copied l.large) l.contents_left l.fn.contents;
  bound : l.known ≤ 1 + length l.fn.contents;
}

abbrev pub decreases-entries_depth-loop-entry : goal.decreases-entries_depth-loop-entry
decreases-entries_depth-loop-entry l = length l.words_left
