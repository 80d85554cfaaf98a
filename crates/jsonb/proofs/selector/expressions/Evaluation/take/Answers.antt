use Rattle.jsonb.proofs.Lemmas.{rules, sym, IfErr, IsSelectionError, Outcome, Truth, IsTruth, both_truths, and_then, try_flat_map, step_meaning, steps_meaning, filter, truth, path_steps, filtered_after, called_both, each_both, all_both, truths_as, filter_then, waits_as}
use Rattle.jsonb.proofs.selector.expressions.Evaluation.take.Goals as goal

pub returns-in-Right-clause-meant : goal.returns-in-Right-clause-meant
returns-in-Right-clause-meant c = λ f aim top ts has at leads.
    let join = c.in-Right.join in
    let l = rw c.in-Right.is at leads.1 in
    record {
      trees = ts;
      items = at;
      leads = (
        (λ t. both_truths join (l.0 t) (f t)),
        each_both (λ x y z t m p q. called_both m (λ x y. (a b : Outcome Truth) → IsTruth x a → IsTruth y b → IsTruth z (both_truths join a b))
            (λ u v post a b s r. search rules) (l.0 t) (f t) p q) c.in-Right.lefts c.args.truths c.in_ok-truths-in-Right.truths ts c.in_ok-truths-in-Right.ensures.made
            l.1 leads.0,
        l.2,
      );
    }

pub returns-in-Right-clause-sound : goal.returns-in-Right-clause-sound
returns-in-Right-clause-sound c = λ frame truths frames.
    let mode = c.args.self.now.context.mode in (
      all_both (λ x y z m p q. called_both m (λ x y. IfErr x (IsSelectionError mode) → IfErr y (IsSelectionError mode) → IfErr z (IsSelectionError mode))
          (λ a b post s u. search rules) p q) c.in-Right.lefts c.args.truths c.in_ok-truths-in-Right.truths c.in_ok-truths-in-Right.ensures.made
          (rw c.in-Right.is at frame) truths,
      frames,
    )

pub returns-clause-meant : goal.returns-clause-meant
returns-clause-meant c = λ f aim top ts has at leads.
    let context = c.args.self.now.context in
    let steps = c.in-Filter.walk.steps.now in
    let l = rw c.in-Filter.is at leads.1 in
    record {
      trees = l.0;
      items = l.4;
      leads = (
        (λ u. and_then (l.1 u) (try_flat_map (step_meaning context.mode (filter l.2) top))),
        l.3,
        c.in_ok-lists-in-Filter.ensures.meant context.document.bytes.now context.mode l.2 top l.1 l.0 ts l.5 l.6
            (truths_as f (truth context.mode l.2 top) (λ t. sym (l.7 t)) c.args.truths ts leads.0),
        waits_as context top l.0 (λ u. filtered_after context top l.2 steps (l.1 u))
            (λ u. and_then (and_then (l.1 u) (try_flat_map (step_meaning context.mode (filter l.2) top))) (steps_meaning context.mode (path_steps steps) top))
            c.in-Filter.waits l.3 (λ u. filter_then context top l.2 steps (l.1 u)) l.8,
        l.9,
      );
    }

pub returns-clause-sound : goal.returns-clause-sound
returns-clause-sound c = λ frame truths frames.
    let s = rw c.in-Filter.is at frame in ((s.0, c.in_ok-lists-in-Filter.ensures.sound c.args.self.now.context.mode s.1 truths), frames)
