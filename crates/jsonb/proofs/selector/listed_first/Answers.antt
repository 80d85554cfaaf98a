use Rattle.jsonb.proofs.Lemmas.{IsSomeAnd, IsTooLarge, first_item, arith, handed_by, handed_refused, handed_same, option_handed}
use Rattle.jsonb.proofs.selector.listed_first.Goals as goal

pub returns-in_err-selected-clause-first : goal.returns-in_err-selected-clause-first
returns-in_err-selected-clause-first c = λ form top outcome d r m.
    grind (
      arith,
      handed_same,
      handed_refused,
      c.from_residual.ensures.1,
      c.in_err-selected.ensures.meant,
    )

pub returns-clause-first : goal.returns-clause-first
returns-clause-first c = λ form top outcome d r m.
    handed_by (λ ts. IsSomeAnd (first_item ts) (IsTooLarge form))
    (c.in_ok-selected.ensures.meant form top outcome r m) (λ ts h.
    option_handed form first_item ts c.first_document.result (rw h.2 at (c.first_document.ensures.document form top h.0 d h.1)))
