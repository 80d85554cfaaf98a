use Rattle.jsonb_doc.proofs.Lemmas.{◌≡◌, ◌≤◌, ◌*◌, ◌^◌, take, total_len}
use Rattle.jsonb_doc.proofs.document_builder.closing.contents_len.Given as goal

abbrev pub invariant-loop-entry : goal.invariant-loop-entry
invariant-loop-entry l = record {
  total : l.len ≡ total_len (take l.entry-index l.entries);
  bound : l.len ≤ 2 ^ 28 * l.entry-index;
}
