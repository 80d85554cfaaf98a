use Rattle.jsonb_raw.proofs.Lemmas.{inl, inr, elements, overlap_swapped}
use Rattle.jsonb_raw.proofs.functions.array.overlap_in.keys_overlap.Goals as goal

pub returns-clause-overlap : goal.returns-clause-overlap
returns-clause-overlap c = λ form other_form ts us l d f g few others_few.
    elim c.fewer_first.ensures [
      | inl same ↦
          rw (overlap_swapped (elements us) (elements ts)) at (c.has_counted.ensures.overlap other_form us (elements ts) (rw same.1 d)
          (c.in_ok-counts.ensures.counts form ts (rw same.0 l) few) g f)
      | inr same ↦
          c.has_counted.ensures.overlap form ts (elements us) (rw same.1 l) (c.in_ok-counts.ensures.counts other_form us (rw same.0 d) others_few) f g
    ]
