use Rattle.jsonb.proofs.Lemmas.{rules, IfErr, IsSelectionError, IsList, AreValues, values_found, called_at, each_mapped, all_mapped}
use Rattle.jsonb.proofs.selector.expressions.Evaluation.compared_lists.Goals as goal

pub returns-clause-meant : goal.returns-clause-meant
returns-clause-meant c = λ h g ts ls lists.
    let bytes = c.args.self.now.context.document.bytes.now in
    c.compared.ensures.meant h (λ t. values_found (g t)) ts ls
    (each_mapped (λ x y t p r. called_at p (λ x. IsList bytes x (g t) → AreValues y (values_found (g t))) (λ b post s. search rules) r)
    c.args.lists.now c.in_ok-rights.rights ts c.in_ok-rights.ensures.mapped lists)

pub returns-clause-sound : goal.returns-clause-sound
returns-clause-sound c = λ ls lists.
    c.compared.ensures.sound ls (all_mapped (λ x y p q. called_at p
    (λ x. IfErr x (IsSelectionError c.args.self.now.context.mode) → IfErr y (IsSelectionError c.args.self.now.context.mode)) (λ b post s. search rules) q)
    c.args.lists.now c.in_ok-rights.rights c.in_ok-rights.ensures.mapped lists)
