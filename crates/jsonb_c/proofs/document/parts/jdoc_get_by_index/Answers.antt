use Rattle.jsonb_c.proofs.document.parts.jdoc_get_by_index.Goals as goal

pub returns : goal.returns
returns c = (
  c.get_by_index.result,
  λ form t d. (
    c.get_by_index.ensures.element form t (rw c.new-document.ensures d),
    c.get_by_index.ensures.none form t (rw c.new-document.ensures d),
  ),
  c.get_by_index.ensures.errors,
  c.deliver.ensures,
)
