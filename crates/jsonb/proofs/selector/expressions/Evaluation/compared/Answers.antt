use Rattle.jsonb.proofs.Lemmas.{rules, Ok, ◌∷◌, [], ◌≡◌, sym, ap, ◌∙◌, subst, IfErr, IsSelectionError, Tree, Value, Outcome, List, IsTruth, AreValues, IsList, compared_values, values_found, value_view, if_ok_as, called_at, called_both, each_mapped, all_mapped, each_both, all_both}
use Rattle.jsonb.proofs.selector.expressions.Evaluation.compared.Goals as goal

pub returns-in-Literal-clause-meant : goal.returns-in-Literal-clause-meant
returns-in-Literal-clause-meant c = λ h k ts ls rs.
    let literal = rw c.in-Literal.is at ls in
    if_ok_as c.map.result (λ made m. each_mapped (λ x y t p r.
    let is : Ok (value_view c.value_of_literal-left.result ∷ []) ≡ h t = ap Ok c.value_of_literal-left.ensures ∙ sym (literal t) in
    subst (λ l. IsTruth y (compared_values c.args.op l (k t))) is
    (called_at p (λ x. AreValues x (k t) → IsTruth y (compared_values c.args.op (Ok (value_view c.value_of_literal-left.result ∷ [])) (k t)))
    (λ b post s. search rules) r)) c.args.rights.now made ts m rs) c.map.ensures.mapped

pub returns-in-Literal-clause-sound : goal.returns-in-Literal-clause-sound
returns-in-Literal-clause-sound c = λ ls rs.
    if_ok_as c.map.result (λ made m. all_mapped (λ x y p q. called_at p
    (λ x. IfErr x (IsSelectionError c.args.self.now.context.mode) → IfErr y (IsSelectionError c.args.self.now.context.mode)) (λ b post s. search rules) q)
    c.args.rights.now made m rs) c.map.ensures.mapped

pub returns-in-Lists-clause-meant : goal.returns-in-Lists-clause-meant
returns-in-Lists-clause-meant c = λ h k ts ls rs.
    let bytes = c.args.self.now.context.document.bytes.now in
    let lefts = rw c.in-Lists.is at ls in
    if_ok_as c.both.result (λ made m. each_both (λ x y z t p q r.
    subst (λ l. IsTruth z (compared_values c.args.op l (k t))) (sym (lefts.2 t))
    (called_both p (λ x y. (l : Outcome (List Tree)) (v : Outcome (List Value)) → IsList bytes x l → AreValues y v
    → IsTruth z (compared_values c.args.op (values_found l) v)) (λ a b post l v s u. search rules) (lefts.0 t) (k t) q r)) c.in-Lists.lists c.args.rights.now made ts m lefts.1 rs) c.both.ensures.made

pub returns-in-Lists-clause-sound : goal.returns-in-Lists-clause-sound
returns-in-Lists-clause-sound c = λ ls rs.
    let lefts = rw c.in-Lists.is at ls in
    if_ok_as c.both.result (λ made m. all_both (λ x y z p q r. called_both p (λ x y. IfErr x (IsSelectionError c.args.self.now.context.mode)
    → IfErr y (IsSelectionError c.args.self.now.context.mode) → IfErr z (IsSelectionError c.args.self.now.context.mode))
    (λ a b post s u. search rules) q r) c.in-Lists.lists c.args.rights.now made m lefts rs) c.both.ensures.made
