use Rattle.jsonb_raw.proofs.Lemmas.{rules, arith, ap, length, failed, none_made, one_made, element_refused_in_list, entry_taken, All-same, All-push, IsWhole}
use Rattle.jsonb_raw.proofs.functions.array.entry_documents.Goals as goal

pub loop-documents-init : goal.loop-documents-init
loop-documents-init c = record {
  whole = λ k d below. absurd (omega (arith, below, ap length c.in_ok-documents.ensures.items));
  made = search (rules, none_made);
}

pub loop-documents-preserved : goal.loop-documents-preserved
loop-documents-preserved c = record {
  whole = All-same IsWhole _ _ c.in_ok-push.ensures.items (All-push IsWhole _ _ c.loop-documents.invariant.whole c.in_ok-entry_document.ensures.whole);
  made = search (rules, entry_taken, one_made);
}

pub returns-in_err-entry_document-clause-documents : goal.returns-in_err-entry_document-clause-documents
returns-in_err-entry_document-clause-documents c = λ form ts h.
    let i = c.loop-documents.invariant.made form ts h in
    let f = entry_taken form _ i.0 _ _ _ c.in-Some.is (c.in_ok-entry.ensures.first form _ i.1) in
    failed _ _ _ c.from_residual-in_err-entry_document.ensures.1 (element_refused_in_list form _ f.t f.rest ts c.in_err-entry_document.field-0.0 (rw f.split at i.2)
    (c.in_err-entry_document.ensures.document form f.t f.is_first.part))
