use Rattle.jsonb_doc.proofs.Lemmas.{◌≡◌, ◌++◌, key_bytes, member_keys}
use Rattle.jsonb_doc.proofs.document_builder.closing.push_key_bytes.Given as goal

-- the bytes so far, and what is still to come, are the whole
abbrev pub invariant-loop-key : goal.invariant-loop-key
invariant-loop-key l = l.head.items ++ key_bytes (member_keys l.key-iterator) ≡ l.fn.head.items ++ key_bytes (member_keys l.members.entries)
