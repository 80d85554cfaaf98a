use Rattle.jsonb_raw.proofs.Lemmas.{◌≡◌, ℕ, List, IsOkAnd, Bor, [], sym, ◌∙◌, subst, get_or-map, is_one_of}
use Rattle.jsonb_raw.proofs.functions.path.name_block.has_name.Goals as goal

pub returns-clause-has : goal.returns-clause-has
returns-clause-has c = λ form ss s h seen is.
    subst (λ t. IsOkAnd c.entries_have.result (λ b. b ≡ is_one_of ss t))
    (sym (get_or-map (λ (name : Bor (List ℕ)). name.now) c.args.names.now c.args.at _ [] is.0) ∙ is.1) (c.entries_have.ensures.has form ss h)
