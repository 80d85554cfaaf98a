use Rattle.jsonb.proofs.Lemmas.{◌∷◌, sym, subst, reverse, expression_view, AreBranches, one_in_front}
use Rattle.jsonb.proofs.selector.compile.push_test.Goals as goal

pub returns-clause-tests : goal.returns-clause-tests
returns-clause-tests c = λ _ alone done a.
    let e = expression_view c.args.e.now in
    subst (λ l. AreBranches (reverse l) (record { condition = e; on_true = c.args.on_true; on_false = c.args.on_false } ∷ done))
    (sym c.in_ok-push.ensures.items) (one_in_front c.args.tests.now.items _ e done a (c.in-Some.ensures alone))
