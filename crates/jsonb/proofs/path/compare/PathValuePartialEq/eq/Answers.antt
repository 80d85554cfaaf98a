use Rattle.jsonb.proofs.Lemmas.{◌∙◌, sym, ap, is_eq, is_some_and, literal-is}
use Rattle.jsonb.proofs.path.compare.PathValuePartialEq.eq.Goals as goal

pub returns-in-Some : goal.returns-in-Some
returns-in-Some c =
    c.is_eq.ensures ∙ ap (is_some_and is_eq) (sym c.in-Some.is ∙ c.order.ensures) ∙ literal-is c.args.self.now c.args.other.now
