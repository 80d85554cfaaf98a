use Rattle.std.proofs.Common.{Err, refl, inl}
use Rattle.jsonb_doc.specs.declared.error.Error.TheVariants.{InvalidJsonb}
use Rattle.jsonb_c.proofs.SpanLemmas.{known_entry}
use Rattle.jsonb_c.proofs.span.document.jdoc_span_document.Goals as goal

pub returns-in-None-clause-document : goal.returns-in-None-clause-document
returns-in-None-clause-document c = (
  Err InvalidJsonb,
  (λ form t within content. absurd (c.in-None.ensures within (known_entry form t c.args.span.now.entry _ content))),
  inl refl,
  (c.deliver_nothing.ensures.len, refl, c.deliver_nothing.ensures.status),
)
