use Rattle.jsonb.proofs.Lemmas.{[], ◌∷◌, Ok, ap, if◌then◌else◌, Locates, pushed, same_outcome}
use Rattle.jsonb.proofs.selector.children.push_if.Goals as goal

pub returns-then-condition-clause-meant : goal.returns-then-condition-clause-meant
returns-then-condition-clause-meant c = λ bytes t before m a.
    same_outcome (ap (λ b. Ok (if b then t ∷ [] else [])) c.if-condition.true)
    (pushed
    (Locates bytes) c.push_spot.result c.args.nodes.now.items c.push_spot.new.nodes.items c.args.spot before t
    c.push_spot.ensures.ok c.push_spot.ensures.err a m)
