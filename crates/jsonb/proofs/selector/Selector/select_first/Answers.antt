use Rattle.jsonb.proofs.Lemmas.{sym, IsSomeAnd, IsTooLarge, first_item, arith, handed_by, handed_refused, handed_same, option_handed}
use Rattle.jsonb.proofs.selector.Selector.select_first.Goals as goal

pub returns-in_err-context-clause-first : goal.returns-in_err-context-clause-first
returns-in_err-context-clause-first c = λ form top outcome d m. grind (arith, c.in_err-context.ensures.meant)

pub returns-in_err-found-clause-first : goal.returns-in_err-found-clause-first
returns-in_err-found-clause-first c = λ form top outcome d m.
    let k = c.in_ok-context.ensures.meant form top d in
    grind (
      arith,
      handed_same,
      handed_refused,
      c.from_residual-in_err-found.ensures.1,
      c.in_ok-context.ensures.mode,
      c.in_err-found.ensures.meant,
      c.deref.ensures.value,
    )

pub returns-in-Some-clause-first : goal.returns-in-Some-clause-first
returns-in-Some-clause-first c = λ form top outcome d m.
    let k = c.in_ok-context.ensures.meant form top d in
    let found = rw c.in-Some.is at ((rw c.in_ok-context.ensures.mode at c.in_ok-found.ensures.meant)
    form top outcome k.1 (rw (sym c.deref.ensures.value) at m)) in
    handed_by (λ ts. IsSomeAnd (first_item ts) (IsTooLarge form)) found
    (λ ts same. option_handed form first_item ts c.found_document.result
    (c.found_document.ensures.document form top (first_item ts) (rw (sym k.0) at d) same))

pub returns-in-None-clause-first : goal.returns-in-None-clause-first
returns-in-None-clause-first c = λ form top outcome d m.
    let k = c.in_ok-context.ensures.meant form top d in
    (rw c.in_ok-context.ensures.mode at c.listed_first.ensures.first)
    form top outcome (rw (sym k.0) at d) k.1 (rw (sym c.deref-in-None.ensures.value) at m)
