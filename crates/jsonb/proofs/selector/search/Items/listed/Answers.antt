use Rattle.jsonb.proofs.Lemmas.{[], Ok, sym, subst, Locates, AllZip, reverse-reverse, arith, failed_as, refused_as, answered}
use Rattle.jsonb.proofs.selector.search.Items.listed.Goals as goal

pub returns-in_err-push-clause-meant : goal.returns-in_err-push-clause-meant
returns-in_err-push-clause-meant c = λ ts h.
    failed_as c.from_residual.ensures.1 (refused_as (c.in_err-push.ensures.meant ts [] h
    (subst (λ l. AllZip (Locates c.args.bytes.now) l []) (sym c.new-spots.ensures.items) tt)))

pub returns-clause-meant : goal.returns-clause-meant
returns-clause-meant c = λ ts h.
    let k = (c.in_ok-push.ensures.meant ts [] h (subst (λ l. AllZip (Locates c.args.bytes.now) l []) (sym c.new-spots.ensures.items) tt)).ok in
    answered {o = Ok ts} (grind (arith, reverse-reverse))
