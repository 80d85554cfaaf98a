use Rattle.jsonb_c.proofs.document.sets.jdoc_array_intersection.Goals as goal

pub returns : goal.returns
returns c = (
  c.array_intersection-made.result,
  λ form other_form t u d e. c.array_intersection-made.ensures.shared form other_form t u (rw c.new.ensures d) (rw c.new-2.ensures e),
  c.array_intersection-made.ensures.errors,
  c.deliver_made.ensures,
)
