use Rattle.jsonb.proofs.Lemmas.{◌≡◌, Err, true, false, ap, sym, ◌∙◌, subst, nil_from_length, err_from_is_err_and, step_view, step_meaning, has_condition, IsOutOfMemory, TakesStep, Lax, arith, no_filter, no_steps_ahead, no_condition_ahead, plain_ahead, plain_total, tested_ahead, filter_total, memory_alone, step_given}
use Rattle.std.specs.Result.{MatchResult}
use Rattle.jsonb.specs.PathTree.{filter}
use Rattle.jsonb.proofs.selector.search.Ahead.take.Goals as goal

pub returns-in_default-clause-takes : goal.returns-in_default-clause-takes
returns-in_default-clause-takes c = λ top t ss a m.
    no_steps_ahead c.args.self.steps.now ss c.args.self.conditions.now (nil_from_length _ c.in_default.ensures.cases) a

pub returns-in_err-selected-clause-takes : goal.returns-in_err-selected-clause-takes
returns-in_err-selected-clause-takes c = λ top t ss a m.
    let plain : has_condition (step_view c.in-Some.step.now) ≡ false = grind (arith, c.has_condition.ensures, c.if-not-has_condition.true) in
    let p = err_from_is_err_and c.from_residual.result c.from_residual.ensures.1 in
    subst (λ r. MatchResult r (TakesStep c.args.bytes.now top t ss) IsOutOfMemory) (sym (p.1 ∙ ap Err p.2))
    (memory_alone (step_meaning Lax (step_view c.in-Some.step.now) top t) (plain_total (step_view c.in-Some.step.now) top t plain)
    (c.in_err-selected.ensures.meant top t (no_filter _ plain) m))

pub returns-then-not-has_condition-clause-takes : goal.returns-then-not-has_condition-clause-takes
returns-then-not-has_condition-clause-takes c = λ top t ss a m.
    let plain : has_condition (step_view c.in-Some.step.now) ≡ false = grind (arith, c.has_condition.ensures, c.if-not-has_condition.true) in
    let f = plain_ahead c.args.self.steps.now ss c.args.self.conditions.now c.in-Some.step.now c.in-Some.steps.now c.in-Some.ensures.cases.0 plain a in
    step_given c.args.bytes.now (step_view c.in-Some.step.now) f.0 ss top t c.in_ok-selected.selected
    (record { steps = c.in-Some.steps; conditions = c.args.self.conditions }) f.1 f.2
    (c.in_ok-selected.ensures.meant top t (no_filter _ plain) m)

pub returns-in_default-split_first-clause-takes : goal.returns-in_default-split_first-clause-takes
returns-in_default-split_first-clause-takes c = λ top t ss a m.
    let tested : has_condition (step_view c.in-Some.step.now) ≡ true = grind (arith, c.has_condition.ensures, c.if-not-has_condition.false) in
    no_condition_ahead c.args.self.steps.now ss c.args.self.conditions.now c.in-Some.step.now c.in-Some.steps.now c.in-Some.ensures.cases.0 tested
    (nil_from_length _ c.in_default-split_first.ensures.cases) a

pub returns-in_err-kept-clause-takes : goal.returns-in_err-kept-clause-takes
returns-in_err-kept-clause-takes c = λ top t ss a m.
    let tested : has_condition (step_view c.in-Some.step.now) ≡ true = grind (arith, c.has_condition.ensures, c.if-not-has_condition.false) in
    let f = tested_ahead c.args.self.steps.now ss c.args.self.conditions.now c.in-Some.step.now c.in-Some.steps.now c.in-Some-split_first.condition.now
    c.in-Some-split_first.conditions.now c.in-Some.ensures.cases.0 tested c.in-Some-split_first.ensures.cases.0 a in
    let p = err_from_is_err_and c.from_residual-in_err-kept.result c.from_residual-in_err-kept.ensures.1 in
    subst (λ r. MatchResult r (TakesStep c.args.bytes.now top t ss) IsOutOfMemory) (sym (p.1 ∙ ap Err p.2))
    (memory_alone (step_meaning Lax (filter f.0) top t) (filter_total c.in-Some-split_first.condition.now f.0 top t f.3) (c.in_err-kept.ensures.meant f.0 top t f.3 m))

pub returns-clause-takes : goal.returns-clause-takes
returns-clause-takes c = λ top t ss a m.
    let tested : has_condition (step_view c.in-Some.step.now) ≡ true = grind (arith, c.has_condition.ensures, c.if-not-has_condition.false) in
    let f = tested_ahead c.args.self.steps.now ss c.args.self.conditions.now c.in-Some.step.now c.in-Some.steps.now c.in-Some-split_first.condition.now
    c.in-Some-split_first.conditions.now c.in-Some.ensures.cases.0 tested c.in-Some-split_first.ensures.cases.0 a in
    step_given c.args.bytes.now (filter f.0) f.1 ss top t c.in_ok-kept.kept
    (record { steps = c.in-Some.steps; conditions = c.in-Some-split_first.conditions }) f.2 f.4 (c.in_ok-kept.ensures.meant f.0 top t f.3 m)
