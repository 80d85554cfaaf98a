use Rattle.jsonb_doc.proofs.Lemmas.{◌≡◌, ◌++◌, member_entries}
use Rattle.jsonb_doc.proofs.document_builder.closing.entries_of.Given as goal

-- the values so far, and those still to come, are the whole
abbrev pub invariant-loop-entry : goal.invariant-loop-entry
invariant-loop-entry l = l.entries.items ++ member_entries l.entry-iterator ≡ member_entries l.members.entries
