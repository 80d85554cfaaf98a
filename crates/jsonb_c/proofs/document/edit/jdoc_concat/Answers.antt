use Rattle.jsonb_c.proofs.document.edit.jdoc_concat.Goals as goal

pub returns : goal.returns
returns c = (
  c.concat.result,
  λ form t u d e. c.concat.ensures.document form t u (rw c.new-document.ensures d) (rw c.new.ensures e),
  c.concat.ensures.errors,
  c.deliver_made.ensures,
)
