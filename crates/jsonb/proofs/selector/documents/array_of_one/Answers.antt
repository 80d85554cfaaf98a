use Rattle.jsonb.proofs.Lemmas.{[], ◌∷◌, Decodes, array_of, err_is, none_held}
use Rattle.jsonb.proofs.Common.{answered}
use Rattle.jsonb.proofs.selector.documents.array_of_one.Goals as goal

pub returns-in_err-push_item-clause-document : goal.returns-in_err-push_item-clause-document
returns-in_err-push_item-clause-document c = λ form t stands.
    rw (err_is c.from_residual.ensures.1) (c.in_err-push_item.ensures.pushed form [] t (none_held form _ c.new-builder.ensures) stands)

pub returns-clause-document : goal.returns-clause-document
returns-clause-document c = λ form t stands.
    answered form (array_of (t ∷ [])) (λ v. Decodes form v.items (array_of (t ∷ []))) c.build.result
    (c.build.ensures.decodes form (t ∷ []) (c.in_ok-push_item.ensures.pushed form [] t (none_held form _ c.new-builder.ensures) stands))
