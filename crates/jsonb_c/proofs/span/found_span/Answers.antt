use Rattle.jsonb_doc.specs.Representation.Positions.{Locates}
use Rattle.jsonb_c.specs.Spans.{IsSpanOf}
use Rattle.jsonb_c.proofs.SpanLemmas.{found_as}
use Rattle.jsonb_c.proofs.span.found_span.Goals as goal

pub returns-clause-span : goal.returns-clause-span
returns-clause-span c = λ form top wanted d h.
    found_as (Locates c.args.document.now) (IsSpanOf form c.args.document.now) c.args.found c.in-Some.spot c.in_ok-span_of.field-0 wanted c.in-Some.is h
    (λ t l. c.in_ok-span_of.ensures.span form top t d l)
