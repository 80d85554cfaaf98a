use Rattle.jsonb_doc.proofs.event_list.collected_document.Goals as goal

pub returns-in-Text : goal.returns-in-Text
returns-in-Text c = record { document = λ form t part. c.encode_item.ensures.decodes form t (rw c.in-Text.is at part) }
