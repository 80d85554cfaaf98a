use Rattle.jsonb_doc.proofs.Lemmas.{rules, short_number_cmp}
use Rattle.jsonb_doc.proofs.short_number.parts_cmp.Goals as goal

pub returns : goal.returns
returns c = search (rules, short_number_cmp)
