use Rattle.jsonb.proofs.Lemmas.{Ok, None, ap, inr, refl, HasSpotsLeft, list_or, listed_itself, unlisted, same_outcome, answered, refused}
use Rattle.jsonb.proofs.selector.children.items_or.Goals as goal

pub returns-in_err-children-clause-meant : goal.returns-in_err-children-clause-meant
returns-in_err-children-clause-meant c = λ bytes ts us h a. absurd (rw c.in_err-children.was at h)

pub returns-in-Some-clause-meant : goal.returns-in-Some-clause-meant
returns-in-Some-clause-meant c = λ bytes ts us h a.
    listed_itself c.args.mode us (HasSpotsLeft bytes) c.in-Some.children ts (rw c.in-Some.is at (rw c.in_ok-children.was at h))
    (λ vs k. answered {o = Ok vs} (c.child_items.ensures bytes vs k))

pub returns-in-Lax-clause-meant : goal.returns-in-Lax-clause-meant
returns-in-Lax-clause-meant c = λ bytes ts us h a.
    unlisted c.args.mode us (HasSpotsLeft bytes) ts (rw c.in-None.is at (rw c.in_ok-children.was at h))
    (same_outcome (ap (λ mode. list_or mode us None) c.in-Lax.is) (answered {o = Ok us} a))

pub returns-in-Strict-clause-meant : goal.returns-in-Strict-clause-meant
returns-in-Strict-clause-meant c = λ bytes ts us h a.
    unlisted c.args.mode us (HasSpotsLeft bytes) ts (rw c.in-None.is at (rw c.in_ok-children.was at h))
    (same_outcome (ap (λ mode. list_or mode us None) c.in-Strict.is) (refused (inr refl)))
