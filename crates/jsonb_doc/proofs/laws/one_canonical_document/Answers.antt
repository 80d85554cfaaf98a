use Rattle.jsonb_doc.proofs.Lemmas.{◌∙◌, sym, one_canonical_document}
use Rattle.jsonb_doc.proofs.laws.one_canonical_document.Goals as goal

pub returns : goal.returns
returns c = λ bytes other t all each h g. one_canonical_document bytes t all h ∙ sym (one_canonical_document other t each g)
