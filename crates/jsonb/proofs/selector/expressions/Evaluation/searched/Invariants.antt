use Rattle.jsonb.proofs.Lemmas.{take, AllZip, IsFoundFor}
use Rattle.jsonb.proofs.selector.expressions.Evaluation.searched.Given as goal

abbrev pub invariant-loop-item : goal.invariant-loop-item
invariant-loop-item l = AllZip (IsFoundFor l.self.context l.steps) (take l.item-index l.items) l.truths.items
