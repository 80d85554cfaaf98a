use Rattle.std.proofs.Common.{arith}
use Rattle.jsonb_doc.proofs.EntryDocuments.{entry_decodes}
use Rattle.jsonb_doc.proofs.KindLemmas.{kind_known, other_kind}
use Rattle.jsonb_doc.proofs.WriterLimits.{not_short}
use Rattle.jsonb_c.proofs.column.documents.entry_bytes.Goals as goal

pub returns-then-entry-gt-MAX_CONTENT-clause-document : goal.returns-then-entry-gt-MAX_CONTENT-clause-document
returns-then-entry-gt-MAX_CONTENT-clause-document c = grind (arith, other_kind, not_short)

pub returns-clause-document : goal.returns-clause-document
returns-clause-document c = grind (arith, other_kind, kind_known, entry_decodes)
