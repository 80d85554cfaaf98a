use Rattle.jsonb.specs.declared.selector.node_list.NodeList.TheVariants as node_list
use Rattle.jsonb.proofs.Lemmas.{rules, IfErr, IsSelectionError, Locates, Ok, ◌∷◌, [], ◌≡◌, refl, sym, subst, steps_view, IsList, starts_of, called_at, all_made, one_list, each_started}
use Rattle.jsonb.proofs.selector.expressions.Evaluation.begin.Goals as goal

pub returns-clause-meant : goal.returns-clause-meant
returns-clause-meant c = λ top ts has at some.
    let bytes = c.args.self.now.context.document.bytes.now in
    each_started {S = λ y t. IsList bytes y (Ok (t ∷ []))} c.args.self.now (steps_view c.args.steps.now) top ts c.in_ok-lists.lists
    (λ x y t p r. called_at p (λ x. Locates bytes x t → IsList bytes y (Ok (t ∷ [])))
    (λ b post s. let is : y ≡ Ok (node_list.One b.now) = search rules in
    subst (λ l. IsList bytes l (Ok (t ∷ []))) (sym is) (one_list bytes b.now t t s refl)) r)
    has at some (rw c.starts-items.ensures at c.in_ok-lists.ensures.made)

pub returns-clause-sound : goal.returns-clause-sound
returns-clause-sound c =
    all_made (λ x y p. called_at p (λ x. IfErr y (IsSelectionError c.args.self.now.context.mode)) (λ b post. search rules))
    c.starts-items.result.now c.in_ok-lists.lists c.in_ok-lists.ensures.made
