use Rattle.jsonb.proofs.Lemmas.{◌≡◌, ◌∙◌, sym, subst, AreTestsOf, filter, expression_view, rules, false, IfErr, IsSelectionError, IsList, and_then, try_flat_map, step_meaning, step_view, is_filter, called, each_mapped, all_mapped, refused_step}
use Rattle.jsonb.proofs.selector.expressions.step_lists.Goals as goal

pub returns-in_default-clause-meant : goal.returns-in_default-clause-meant
returns-in_default-clause-meant c = λ top g ts lists.
    let bytes = c.args.context.now.document.bytes.now in
    let f = step_meaning c.args.context.now.mode (step_view c.args.step.now) top in
    each_mapped (λ x y t p r. called p
    (is_filter (step_view c.args.step.now) ≡ false → IsList bytes x (g t) → IsList bytes y (and_then (g t) (try_flat_map f)))
    (λ post plain s. let k = post.1.said-raw.1.1.0 in let is : y ≡ k.result = search (rules, post.1.said-raw) in
    subst (λ l. IsList bytes l (and_then (g t) (try_flat_map f))) (sym is) (k.ensures.0 top (g t) plain s)) c.in_default.ensures.0 r) c.args.lists.now c.update.new.lists ts c.in_ok-update.ensures.made lists

pub returns-in_default-clause-sound : goal.returns-in_default-clause-sound
returns-in_default-clause-sound c = λ lists.
    all_mapped (λ x y p q. called p
    (IfErr x (IsSelectionError c.args.context.now.mode) → IfErr y (IsSelectionError c.args.context.now.mode)) (λ post s. search rules) q)
    c.args.lists.now c.update.new.lists c.in_ok-update.ensures.made lists

pub returns-clause-meant : goal.returns-clause-meant
returns-clause-meant c = λ top g ts lists.
    let bytes = c.args.context.now.document.bytes.now in
    let mode = c.args.context.now.mode in
    let e = expression_view c.in-Some.e.now in
    let plain = rw (sym c.as_slice-tests.ensures) at (rw c.in-Some-2.is at c.in_ok-condition.ensures.tests) in
    let is = sym (refused_step (step_view c.args.step.now)) ∙ c.in-Some.ensures in
    each_mapped (λ x y t p r. subst (λ s. IsList bytes y (and_then (g t) (try_flat_map (step_meaning mode s top)))) (sym is) (called p
    (AreTestsOf c.as_slice-tests.result.now e → IsList bytes x (g t) → IsList bytes y (and_then (g t) (try_flat_map (step_meaning mode (filter e) top))))
    (λ post a s. let k = post.1.said-raw.1.1.1.0 in let is : y ≡ k.result = search (rules, post.1.said-raw) in
    subst (λ l. IsList bytes l (and_then (g t) (try_flat_map (step_meaning mode (filter e) top)))) (sym is) (k.ensures.0 e top (g t) a s)) plain r)) c.args.lists.now c.update-2.new.lists ts c.in_ok-update-2.ensures.made lists

pub returns-clause-sound : goal.returns-clause-sound
returns-clause-sound c = λ lists.
    all_mapped (λ x y p q. called p
    (IfErr x (IsSelectionError c.args.context.now.mode) → IfErr y (IsSelectionError c.args.context.now.mode)) (λ post s. search rules) q)
    c.args.lists.now c.update-2.new.lists c.in_ok-update-2.ensures.made lists
