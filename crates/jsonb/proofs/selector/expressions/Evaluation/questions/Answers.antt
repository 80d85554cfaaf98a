use Rattle.jsonb.proofs.Lemmas.{◌≡◌, sym, subst, rules, Tree, Expression, IsQuestionOf, IfErr, Locates, truth, IsTruth, IsSelectionError, if_ok_as, called_at, each_made, all_made}
use Rattle.jsonb.proofs.selector.expressions.Evaluation.questions.Goals as goal

pub returns-clause-meant : goal.returns-clause-meant
returns-clause-meant c = λ e top ts asked at.
    let bytes = c.args.self.now.context.document.bytes.now in
    let mode = c.args.self.now.context.mode in
    if_ok_as c.column_of.result
    (λ made m. each_made (λ x y t p r. called_at p (λ x. (e : Expression) (top t : Tree) → IsQuestionOf c.args.question.now e
    → Locates bytes x t → IsTruth y (truth mode e top t)) (λ b post e top t asked s. let k = post.said-raw.1.1.1.1.1.1.0 in let is : y ≡ k.result = post.said-raw.1.1.1.1.1.1.1 in
    subst (λ l. IsTruth l (truth mode e top t)) (sym is) (k.ensures.0 e top t asked s)) e top t asked r)
    c.as_slice.result.now made ts (rw (sym c.as_slice.ensures) at at) m) c.column_of.ensures.made

pub returns-clause-sound : goal.returns-clause-sound
returns-clause-sound c =
    if_ok_as c.column_of.result
    (λ made m. all_made (λ x y p. called_at p (λ x. IfErr y (IsSelectionError c.args.self.now.context.mode)) (λ b post. search rules))
    c.as_slice.result.now made m) c.column_of.ensures.made
