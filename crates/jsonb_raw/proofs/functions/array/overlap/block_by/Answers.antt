use Rattle.jsonb_raw.proofs.Lemmas.{refl, sym, ap, ◌∙◌, elements, overlap, overlap_none, others_decide, overlap_split}
use Rattle.jsonb_raw.proofs.functions.array.overlap.block_by.Goals as goal

pub returns-in_err-block-clause-overlap : goal.returns-in_err-block-clause-overlap
returns-in_err-block-clause-overlap c = λ form other_form ts us l d. absurd (c.in_err-block.ensures.passed other_form us d)

pub returns-in_err-block_overlaps-clause-overlap : goal.returns-in_err-block_overlaps-clause-overlap
returns-in_err-block_overlaps-clause-overlap c = λ form other_form ts us l d.
    absurd (c.in_err-block_overlaps.ensures.overlap form other_form ts us l d (λ t any. c.in_ok-block.ensures.marked other_form us t d any))

pub returns-then-branch-clause-overlap : goal.returns-then-branch-clause-overlap
returns-then-branch-clause-overlap c = λ form other_form ts us l d.
    let told = c.in_ok-block_overlaps.ensures.overlap form other_form ts us l d (λ t any. c.in_ok-block.ensures.marked other_form us t d any) in
    rw (sym told ∙ c.if-branch.true) at (sym (overlap_split c.in_ok-block.block.count (elements ts) (elements us)))

pub returns-then-block-clause-overlap : goal.returns-then-block-clause-overlap
returns-then-block-clause-overlap c = λ form other_form ts us l d.
    let told = c.in_ok-block_overlaps.ensures.overlap form other_form ts us l d (λ t any. c.in_ok-block.ensures.marked other_form us t d any) in
    sym (overlap_none (elements ts)) ∙ sym (ap (overlap (elements ts)) (c.in_ok-block.ensures.ended other_form us d c.if-block.true))
    ∙ others_decide _ (elements ts) (elements us) _ refl (sym told ∙ c.if-branch.false)

pub returns-clause-overlap : goal.returns-clause-overlap
returns-clause-overlap c = λ form other_form ts us l d.
    let told = c.in_ok-block_overlaps.ensures.overlap form other_form ts us l d (λ t any. c.in_ok-block.ensures.marked other_form us t d any) in
    let rest = c.in_ok-block.ensures.passed other_form us d in (
      c.in_ok-block.block.count,
      rest.0,
      rest.1,
      rest.2,
      ap (overlap (elements ts)) rest.2 ∙ others_decide _ (elements ts) (elements us) _ refl (sym told ∙ c.if-branch.false),
    )
