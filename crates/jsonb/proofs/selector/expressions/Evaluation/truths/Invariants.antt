use Rattle.jsonb.proofs.Lemmas.{◌≡◌, ◌+◌, List, [], Tree, HasTree, expression_view, truth, IsForItems, IsOnward, IsSoundTurn, AreSoundFrames, turn_weight, frames_weight}
use Rattle.jsonb.proofs.selector.expressions.Evaluation.truths.Given as goal

-- what is evaluated leads to the results of the expression
abbrev pub invariant-loop-turn : goal.invariant-loop-turn
invariant-loop-turn l = record {
  same : l.self.context ≡ l.fn.self.context;
  meant : (top : Tree) (ts : List Tree) → HasTree l.fn.self.context.document top → IsForItems l.fn.self ts → l.fn.self.frames.items ≡ []
      → IsOnward (record { trees = ts; meant = truth l.fn.self.context.mode (expression_view l.e) top }) top l.self l.turn;
  sound : l.fn.self.frames.items ≡ [] → IsSoundTurn l.self.context.mode l.turn × AreSoundFrames l.self;
}

abbrev pub decreases-loop-turn : goal.decreases-loop-turn
decreases-loop-turn l = turn_weight l.turn + frames_weight l.self
