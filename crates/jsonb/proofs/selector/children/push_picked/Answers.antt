use Rattle.jsonb.proofs.Lemmas.{[], sym, subst, Locates, AllZip, failed_as, only_memory}
use Rattle.jsonb.proofs.selector.children.push_picked.Goals as goal

pub returns-in_err-push_spots-clause-meant : goal.returns-in_err-push_spots-clause-meant
returns-in_err-push_spots-clause-meant c = λ bytes ts before h a.
    failed_as c.from_residual.ensures.1
    (only_memory (c.in_err-push_spots.ensures.meant bytes ts [] h (subst (λ l. AllZip (Locates bytes) l []) (sym c.new-spots.ensures.items) tt)))

pub returns-clause-meant : goal.returns-clause-meant
returns-clause-meant c = λ bytes ts before h a.
    c.push_entries.ensures.meant bytes ts before
    (rw (sym c.deref.ensures.value) at
    (c.in_ok-push_spots.ensures.meant bytes ts [] h (subst (λ l. AllZip (Locates bytes) l []) (sym c.new-spots.ensures.items) tt)).ok) a
