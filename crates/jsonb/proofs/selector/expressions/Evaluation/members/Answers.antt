use Rattle.jsonb.proofs.Lemmas.{rules, IfErr, IsSelectionError, ◌∷◌, [], Tree, steps_meaning, steps_view, path_steps, IsList, Locates, if_ok_as, called_at, all_made, each_started}
use Rattle.jsonb.proofs.selector.expressions.Evaluation.members.Goals as goal

pub returns-clause-meant : goal.returns-clause-meant
returns-clause-meant c = λ top ts m has at some.
    let bytes = c.args.self.now.context.document.bytes.now in
    let o = λ (u : Tree). steps_meaning c.args.self.now.context.mode (path_steps c.args.steps.now) top (u ∷ []) in
    if_ok_as c.column_of.result (λ made h. each_started {S = λ y t. IsList bytes y (o t)} c.args.self.now (steps_view c.args.steps.now) top ts made
    (λ x y t p r. called_at p (λ x. Locates bytes x t → IsList bytes y (o t)) (λ b post s. search rules) r)
    has at some (rw c.starts.ensures at h)) c.column_of.ensures.made

pub returns-clause-sound : goal.returns-clause-sound
returns-clause-sound c =
    if_ok_as c.column_of.result (λ made m. all_made (λ x y p. called_at p (λ x. IfErr y (IsSelectionError c.args.self.now.context.mode)) (λ b post. search rules))
    c.starts.result.now made m) c.column_of.ensures.made
