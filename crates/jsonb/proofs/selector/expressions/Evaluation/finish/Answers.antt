use Rattle.jsonb.proofs.Lemmas.{rules, refl, sym, subst, IfErr, IsSelectionError, IsTruth, IsList, exists_of, compared_values, values_found, called_at, each_mapped, all_mapped, truths_as, leads_as}
use Rattle.jsonb.proofs.selector.expressions.Evaluation.finish.Goals as goal

pub returns-in-Exists-clause-meant : goal.returns-in-Exists-clause-meant
returns-in-Exists-clause-meant c = λ g f aim top ts frames has at lists waits leads.
    let bytes = c.args.self.now.context.document.bytes.now in
    let is = rw c.in-Exists.is at waits in (
      f,
      each_mapped (λ x y t p r. subst (IsTruth y) (sym (is t)) (called_at p (λ x. IsList bytes x (g t) → IsTruth y (exists_of (g t))) (λ b post s. search rules) r))
          c.args.lists c.in_ok-map-in-Exists.field-0 ts c.in_ok-map-in-Exists.ensures.mapped lists,
      leads,
    )

pub returns-in-Exists-clause-sound : goal.returns-in-Exists-clause-sound
returns-in-Exists-clause-sound c = λ waits lists.
    all_mapped (λ x y p q. called_at p
    (λ x. IfErr x (IsSelectionError c.args.self.now.context.mode) → IfErr y (IsSelectionError c.args.self.now.context.mode)) (λ b post s. search rules) q)
    c.args.lists c.in_ok-map-in-Exists.field-0 c.in_ok-map-in-Exists.ensures.mapped lists

pub returns-in-Left-clause-meant : goal.returns-in-Left-clause-meant
returns-in-Left-clause-meant c = λ g f aim top ts frames has at lists waits leads.
    let is = rw c.in-Left.is at waits in
    c.right.ensures.meant (λ t. values_found (g t)) aim top ts frames has at is.0 (g, lists, λ t. refl)
    (leads_as aim c.args.self.now.context top ts f _ frames is.1 leads)

pub returns-clause-meant : goal.returns-clause-meant
returns-clause-meant c = λ g f aim top ts frames has at lists waits leads.
    let is = rw c.in-Right.is at waits in (
      f,
      truths_as (λ t. compared_values c.in-Right.op (is.0 t) (values_found (g t))) f is.2 _ ts
          (c.in_ok-compared_lists-in-Right.ensures.meant is.0 g ts is.1 lists),
      leads,
    )
