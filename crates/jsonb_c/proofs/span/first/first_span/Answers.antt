use Rattle.std.proofs.Common.{◌≡◌, Option, Some, None, Bool}
use Rattle.jsonb_doc.specs.Representation.Positions.{Locates}
use Rattle.jsonb_c.specs.Spans.{IsSpanOf}
use Rattle.jsonb_c.proofs.FirstSpans.{item_of, nothing_of}
use Rattle.jsonb_c.proofs.span.first.first_span.Goals as goal

pub returns-in_err-item_span-in-Some-clause-span : goal.returns-in_err-item_span-in-Some-clause-span
returns-in_err-item_span-in-Some-clause-span c = λ form top computed wanted d h.
    let p = item_of (Locates c.args.document.now) (IsSpanOf form c.args.document.now) computed c.in-Some.item _ wanted c.in-Some.is h in
    absurd (c.in_err-item_span-in-Some.ensures.span form top p.0 computed d p.2)

pub returns-in_ok-item_span-in-Some-clause-span : goal.returns-in_ok-item_span-in-Some-clause-span
returns-in_ok-item_span-in-Some-clause-span c = λ form top computed wanted d h.
    let p = item_of (Locates c.args.document.now) (IsSpanOf form c.args.document.now) computed c.in-Some.item _ wanted c.in-Some.is h in
    rw p.1 (c.in_ok-item_span-in-Some.ensures.span form top p.0 computed d p.2)

pub returns-in-None-clause-span : goal.returns-in-None-clause-span
returns-in-None-clause-span c = λ form top computed wanted d h.
    nothing_of (Locates c.args.document.now) (IsSpanOf form c.args.document.now) computed _ wanted c.in-None.is h
