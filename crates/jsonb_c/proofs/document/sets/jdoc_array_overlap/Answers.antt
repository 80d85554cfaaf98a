use Rattle.jsonb_c.proofs.document.sets.jdoc_array_overlap.Goals as goal

pub returns : goal.returns
returns c = (
  c.array_overlap_in.result,
  λ form other_form t u d e. c.array_overlap_in.ensures.overlap form other_form t u (rw c.new-document.ensures d) (rw c.new-other.ensures e),
  c.array_overlap_in.ensures.errors,
  c.store_bool.ensures,
)
