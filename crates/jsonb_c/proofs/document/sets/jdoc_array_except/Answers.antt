use Rattle.jsonb_c.proofs.document.sets.jdoc_array_except.Goals as goal

pub returns : goal.returns
returns c = (
  c.array_except-made.result,
  λ form other_form t u d e. c.array_except-made.ensures.unshared form other_form t u (rw c.new.ensures d) (rw c.new-2.ensures e),
  c.array_except-made.ensures.errors,
  c.deliver_made.ensures,
)
