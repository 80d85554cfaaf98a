use Rattle.jsonb.proofs.Lemmas.{[], ◌∷◌, Ok, sym, ap, truth_item, AreSelected, followed, same_outcome, one_given}
use Rattle.jsonb.proofs.selector.whole_path.whole_truth.Goals as goal

pub returns-clause-meant : goal.returns-clause-meant
returns-clause-meant c = λ form top r.
    followed (λ b. Ok (truth_item b ∷ [])) (c.in_ok-truth.ensures.meant top r) (λ b p.
    same_outcome (ap (λ z. Ok (truth_item z ∷ [])) (sym p)) (one_given (AreSelected form c.args.context.now.document) _
    (c.truth_item.ensures form, tt)))
