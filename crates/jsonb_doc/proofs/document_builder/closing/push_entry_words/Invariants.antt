use Rattle.jsonb_doc.proofs.Lemmas.{◌≡◌, ◌++◌, take, entry_words}
use Rattle.jsonb_doc.proofs.document_builder.closing.push_entry_words.Given as goal

abbrev pub invariant-loop-entry : goal.invariant-loop-entry
invariant-loop-entry l = l.head.items ≡ l.fn.head.items ++ entry_words (take l.entry-index l.entries)
