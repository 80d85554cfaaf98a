use Rattle.jsonb_doc.proofs.spot.document.item_document.Goals as goal

pub returns-in_err-item-clause-decodes : goal.returns-in_err-item-clause-decodes
returns-in_err-item-clause-decodes c = λ form t content. absurd (c.in_err-item.ensures.decodes form t content)

pub returns-clause-decodes : goal.returns-clause-decodes
returns-clause-decodes c = λ form t content. c.encode_item.ensures.decodes form t (c.in_ok-item.ensures.decodes form t content)
