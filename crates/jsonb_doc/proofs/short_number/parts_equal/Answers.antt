use Rattle.jsonb_doc.proofs.Lemmas.{short_cmp, rules}
use Rattle.jsonb_doc.proofs.short_number.parts_equal.Goals as goal

pub returns : goal.returns
returns c = search (rules, short_cmp)
