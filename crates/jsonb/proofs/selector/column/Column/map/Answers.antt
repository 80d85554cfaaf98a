use Rattle.jsonb.proofs.Lemmas.{refl, sym, subst}
use Rattle.std.specs.Fn.{FnReturnsAt}
use Rattle.std.proofs.lemmas.Fn.{says_at}
use Rattle.jsonb.proofs.selector.column.Column.map.Goals as goal

pub returns-in_ok-settled-in-Same-clause-mapped : goal.returns-in_ok-settled-in-Same-clause-mapped
returns-in_ok-settled-in-Same-clause-mapped g c =
    rw c.in-Same.is (subst (FnReturnsAt g.F.Fn c.args.f c.in-Same.result) (sym c.in_ok-settled-in-Same.ensures.same) (says_at g.F.Fn c.f.ensures refl))
