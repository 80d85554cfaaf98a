use Rattle.jsonb.proofs.Lemmas.{◌≡◌, ◌<◌, ◌++◌, ◌∷◌, [], length, sym, arith, Some, map_push, spaced_inner, path_step, steps_view, step_view, loop-goes, loop-ends, inner-is_step}
use Rattle.jsonb.proofs.parser.inner_path.inner_steps_at.Goals as goal

pub loop-steps-preserved : goal.loop-steps-preserved
loop-steps-preserved c =
    let grown : steps_view c.push.new.self.items ≡ steps_view c.loop-steps.steps.items ++ step_view c.in-Some.next ∷ [] =
    rw c.in_ok-push.ensures.items (map_push step_view c.loop-steps.steps.items c.in-Some.next) in
    let reads : Some (step_view c.in-Some.next, c.in-Some.after.now) ≡ spaced_inner c.loop-steps.rest.now = rw c.in-Some.is at
    c.in_ok-next.ensures.value in
    let shorter : length c.in-Some.after.now < length c.loop-steps.rest.now = rw c.in-Some.is at c.in_ok-next.ensures.shrinks in
    record {
      read = rw grown (loop-goes spaced_inner (steps_view c.loop-steps.steps.items) c.loop-steps.rest.now
          (step_view c.in-Some.next) c.in-Some.after.now _ (sym reads) shorter c.loop-steps.invariant.read);
      behind = rw grown (loop-goes path_step (steps_view c.loop-steps.steps.items) c.loop-steps.rest.now
          (step_view c.in-Some.next) c.in-Some.after.now _ (inner-is_step c.loop-steps.rest.now _ (sym reads)) shorter c.loop-steps.invariant.behind);
      shorter = omega (arith, shorter, c.loop-steps.invariant.shorter);
    }

pub returns-clause-value : goal.returns-clause-value
returns-clause-value c = grind (arith, loop-ends)
