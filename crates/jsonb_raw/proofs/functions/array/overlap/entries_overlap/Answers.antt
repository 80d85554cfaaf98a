use Rattle.jsonb_raw.proofs.Lemmas.{inl, inr, elements, overlap_swapped}
use Rattle.jsonb_raw.proofs.functions.array.overlap.entries_overlap.Goals as goal

pub returns-then-len-le1-clause-overlap : goal.returns-then-len-le1-clause-overlap
returns-then-len-le1-clause-overlap c = λ form other_form ts us l d f g.
    elim c.fewer_first.ensures [
      | inl same ↦ c.pairs_overlap.ensures.overlap form other_form ts us (rw same.0 l) (rw same.1 d)
      | inr same ↦
          rw (overlap_swapped (elements us) (elements ts)) at (c.pairs_overlap.ensures.overlap other_form form us ts (rw same.0 d) (rw same.1 l))
    ]
