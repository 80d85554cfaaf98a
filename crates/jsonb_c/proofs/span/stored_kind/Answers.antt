use Rattle.jsonb_c.proofs.SpanLemmas.{stored_string}
use Rattle.jsonb_c.proofs.span.stored_kind.Goals as goal

pub returns-in-Text-clause-kind : goal.returns-in-Text-clause-kind
returns-in-Text-clause-kind c = λ form t h. stored_string form t _ (rw c.in-Text.is at h)

pub returns-in_err-item-clause-kind : goal.returns-in_err-item-clause-kind
returns-in_err-item-clause-kind c = λ form t h. absurd (c.in_err-item.ensures.decodes form t h)

pub returns-clause-kind : goal.returns-clause-kind
returns-clause-kind c = λ form t h. c.item_kind.ensures form t c.in_ok-item.ensures.normal (c.in_ok-item.ensures.decodes form t h)
