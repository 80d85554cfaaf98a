use Rattle.jsonb_doc.proofs.Lemmas.{◌≡◌, ◌++◌, key_words, AreShortKeys, member_keys}
use Rattle.jsonb_doc.proofs.document_builder.closing.push_key_words.Given as goal

-- the bytes so far, and what is still to come, are the whole; the keys so far are short
abbrev pub invariant-loop-key : goal.invariant-loop-key
invariant-loop-key l = record {
  whole : l.head.items ++ key_words (member_keys l.key-iterator) ≡ l.fn.head.items ++ key_words (member_keys l.members.entries);
  short : AreShortKeys (member_keys l.key-iterator) → AreShortKeys (member_keys l.members.entries);
  rest_short : AreShortKeys (member_keys l.members.entries) → AreShortKeys (member_keys l.key-iterator);
}
