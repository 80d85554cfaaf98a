use Rattle.jsonb.proofs.Lemmas.{ℕ, List, ◌≤◌, ◌∷◌, [], subst, length, map, drop_of_length-le, Outcome, Tree, Spot, IsOkAnd, steps_meaning, steps_of, steps_view, taken_step, step_view, filter, expression_view, node_spots, HasSame, SameOutcomes, Context, Expressions, Repeats, Path, Listed, listed_more, listed_failed, answered, failed_with, same_found, same_outcome_itself, with_repeats}
use Rattle.jsonb.proofs.selector.steps.listed_steps.Goals as goal
use Rattle.jsonb.proofs.selector.steps.listed_steps.Goals.{in-Some+in_ok-items-in-Some, in-None+in_ok-items-in-None}

-- no step is left
listed_end : (context : Context) (top : Tree) (all : Expressions) (repeats : Repeats) (steps : List Path) (i : ℕ) (spots : List Spot) (whole : Outcome (List Tree))
    → Listed context top all repeats steps i spots whole → length steps ≤ i → IsOkAnd whole (HasSame repeats context.document.bytes.now spots)
listed_end context top all repeats steps i spots whole l end =
    same_found repeats context.document.bytes.now spots l.now whole l.at
    (subst (λ left. SameOutcomes repeats (steps_meaning context.mode (steps_of (map (taken_step all) (steps_view left))) top l.now) whole)
    (drop_of_length-le steps end) l.same)

pub loop-step-init : goal.loop-step-init
loop-step-init c = λ top t r s. record { now = t ∷ []; at = (s, tt); same = same_outcome_itself c.args.repeats _ }

pub returns-in_err-items-in-Some-clause-meant : goal.returns-in_err-items-in-Some-clause-meant
returns-in_err-items-in-Some-clause-meant c = λ top t r s.
    let l = c.loop-step.invariant top t r s in
    failed_with c.from_residual.ensures.1
    (listed_failed c.args.context.now top c.args.expressions c.args.repeats c.args.steps.now c.loop-step.step-index (node_spots c.loop-step.items) _ l
    c.step-item.result c.loop-step-test.true c.step-item.is (filter (expression_view c.in-Some.e.now)) _ c.in-Some.ensures
    (c.in_err-items-in-Some.ensures.meant top l.now r l.at).err)

pub returns-in_err-items-in-None-clause-meant : goal.returns-in_err-items-in-None-clause-meant
returns-in_err-items-in-None-clause-meant c = λ top t r s.
    let l = c.loop-step.invariant top t r s in
    failed_with c.from_residual-in_err-items-in-None.ensures.1
    (listed_failed c.args.context.now top c.args.expressions c.args.repeats c.args.steps.now c.loop-step.step-index (node_spots c.loop-step.items) _ l
    c.step-item.result c.loop-step-test.true c.step-item.is (step_view c.step-item.result) _ c.in-None.ensures.1
    (c.in_err-items-in-None.ensures.meant top l.now c.in-None.ensures.0 l.at).err)

pub loop-step-preserved : goal.loop-step-preserved
loop-step-preserved c = λ top t r s.
    let l = c.loop-step.invariant top t r s in
    let more = listed_more c.args.context.now top c.args.expressions c.args.repeats c.args.steps.now c.loop-step.step-index (node_spots c.loop-step.items) _ l
    c.step-item.result c.loop-step-test.true c.step-item.is in
    elim c.match-filter_of.branch [
      | in-Some+in_ok-items-in-Some w ↦ rw w.items-is (more (filter (expression_view w.in-Some.e.now)) _ w.in-Some.ensures
          (with_repeats c.args.repeats c.args.context.now.document.bytes.now _ _ (w.in_ok-items-in-Some.ensures.meant top l.now r l.at).ok))
      | in-None+in_ok-items-in-None w ↦ rw w.items-is (more (step_view c.step-item.result) _ w.in-None.ensures.1
          (w.in_ok-items-in-None.ensures.meant top l.now w.in-None.ensures.0 l.at).ok)
    ]

pub returns-clause-meant : goal.returns-clause-meant
returns-clause-meant c = λ top t r s. answered
    (listed_end c.args.context.now top c.args.expressions c.args.repeats c.args.steps.now c.loop-step.step-index (node_spots c.loop-step.items) _
    (c.loop-step.invariant top t r s) c.loop-step-test.false)
