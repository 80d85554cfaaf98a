use Rattle.jsonb_c.proofs.document.compare.jdoc_contains.Goals as goal

pub returns : goal.returns
returns c = (
  c.contains_in.result,
  λ form other_form t u d e. c.contains_in.ensures.answer form other_form t u (rw c.new-document.ensures d) (rw c.new.ensures e),
  c.contains_in.ensures.errors,
  c.store_bool.ensures,
)
