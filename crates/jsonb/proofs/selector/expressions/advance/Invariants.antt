use Rattle.jsonb.proofs.Lemmas.{◌≡◌, ◌-◌, ◌≤◌, List, length, drop, Outcome, Tree, and_then, steps_meaning, AreLists, AreSound, path_steps, steps_weight}
use Rattle.jsonb.proofs.selector.expressions.advance.Given as goal

-- what the steps that are left make of the lists is what all steps make of the first
abbrev pub invariant-loop-next : goal.invariant-loop-next
invariant-loop-next l = record {
  meant : (top : Tree) (g : Tree → Outcome (List Tree)) (ts : List Tree) → AreLists l.context.document.bytes.now g ts l.fn.walk.lists
      → (h : Tree → Outcome (List Tree)) × AreLists l.context.document.bytes.now h ts l.lists
      × ((t : Tree) → and_then (g t) (steps_meaning l.context.mode (path_steps l.fn.walk.steps.now) top)
      ≡ and_then (h t) (steps_meaning l.context.mode (path_steps (drop l.next l.steps)) top));
  sound : AreSound l.context.mode l.fn.walk.lists → AreSound l.context.mode l.lists;
  fewer : steps_weight (path_steps (drop l.next l.steps)) ≤ steps_weight (path_steps l.fn.walk.steps.now);
}

abbrev pub decreases-loop-next : goal.decreases-loop-next
decreases-loop-next l = length l.steps - l.next
