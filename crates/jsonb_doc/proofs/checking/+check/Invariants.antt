use Rattle.jsonb_doc.proofs.Lemmas.{◌*◌, ◌+◌, ◌≤◌, length, nat_eq, if◌then◌else◌, option_copied, HasContent, HasEntries, HasLarge, ReducesTo, kind_number, halvings, IsApart}
use Rattle.jsonb_doc.proofs.checking.+check.Given as goal

-- calls nest no deeper than the length can be halved
abbrev pub decreases-check_container : goal.decreases-check_container
decreases-check_container l = 3 * halvings (length l.bytes.now) + 2

abbrev pub decreases-check_content : goal.decreases-check_content
decreases-check_content l = if nat_eq (kind_number l.kind) 5 then 3 * halvings (length l.content.now) + 3 else 0

abbrev pub decreases-check_entries : goal.decreases-check_entries
decreases-check_entries l = 3 * halvings (length l.contents.now + 4) + 1

-- the container decodes if the one that is left does
abbrev pub invariant-check_container-loop-words : goal.invariant-check_container-loop-words
invariant-check_container-loop-words l = record {
  shorter : length l.container ≤ length l.fn.bytes;
  left : ReducesTo l.is_supported (HasContent 5 l.fn.bytes) (HasContent 5 l.container);
}

abbrev pub decreases-check_container-loop-words : goal.decreases-check_container-loop-words
decreases-check_container-loop-words l = length l.container

-- the entries decode if the large container and those that are left do
abbrev pub invariant-check_entries-loop-words_left : goal.invariant-check_entries-loop-words_left
invariant-check_entries-loop-words_left l = record {
  apart : IsApart (option_copied l.large) l.contents_left l.fn.contents;
  left : ReducesTo l.is_supported (HasEntries l.fn.words l.fn.contents) (λ r. HasLarge (option_copied l.large) r × HasEntries l.words_left l.contents_left r);
}

abbrev pub decreases-check_entries-loop-words_left : goal.decreases-check_entries-loop-words_left
decreases-check_entries-loop-words_left l = length l.words_left
