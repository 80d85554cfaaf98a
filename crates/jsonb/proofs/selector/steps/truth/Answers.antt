use Rattle.jsonb.proofs.Lemmas.{◌∷◌, [], sym, subst, ◌∙◌, arith, same_Some, IsTruth, truth, expression_view, each_from, Said, sound_at}
use Rattle.jsonb.proofs.selector.steps.truth.Goals as goal

pub returns-in-Some-clause-meant : goal.returns-in-Some-clause-meant
returns-in-Some-clause-meant c = λ top t r s.
    let context = c.new-evaluation.ensures.context in
    let f = truth c.args.current.context.now.mode (expression_view c.args.e.now) top in
    let known = c.in_ok-truths.ensures.meant top (t ∷ []) (rw context r) (rw (context, c.new-evaluation.ensures.items) (s, tt)) c.new-evaluation.ensures.frames in
    let from = each_from (Said f) c.in_ok-truths.truths (t ∷ []) (rw context at known.1) in
    subst (λ x. IsTruth x (f t)) (same_Some _ _ (sym from.1 ∙ c.in-Some.ensures)) from.2

pub returns-in-Some-clause-errors : goal.returns-in-Some-clause-errors
returns-in-Some-clause-errors c =
    sound_at c.args.current.context.now.mode c.in_ok-truths.truths 0 c.in-Some.truth.now
    (rw c.new-evaluation.ensures.context at (c.in_ok-truths.ensures.sound c.new-evaluation.ensures.frames)) c.in-Some.ensures

pub returns-clause-meant : goal.returns-clause-meant
returns-clause-meant c = λ top t r s.
    let context = c.new-evaluation.ensures.context in
    let f = truth c.args.current.context.now.mode (expression_view c.args.e.now) top in
    let known = c.in_ok-truths.ensures.meant top (t ∷ []) (rw context r) (rw (context, c.new-evaluation.ensures.items) (s, tt)) c.new-evaluation.ensures.frames in
    let from = each_from (Said f) c.in_ok-truths.truths (t ∷ []) (rw context at known.1) in
    absurd (grind (arith, c.in-None.ensures, from.1))
