use Rattle.jsonb_raw.proofs.Lemmas.{sym, ◌∙◌, arith, all_left}
use Rattle.jsonb_raw.proofs.functions.path.leaves.descend_into_container.Goals as goal

pub returns-then-is_ignored_array-clause-leaf : goal.returns-then-is_ignored_array-clause-leaf
returns-then-is_ignored_array-clause-leaf c = λ form t content.
    (grind (arith, sym (c.is_ignored_array.ensures form t content) ∙ c.if-is_ignored_array.true))

pub returns-then-len-eq0-clause-leaf : goal.returns-then-len-eq0-clause-leaf
returns-then-len-eq0-clause-leaf c = λ form t content.
    let left = all_left form t _ (c.in_ok-level.ensures.level form t content) in
    (grind (arith, c.len.ensures form _ left, c.if-len-eq0.true))

pub returns-clause-leaf : goal.returns-clause-leaf
returns-clause-leaf c = λ form t content.
    let all = c.in_ok-level.ensures.level form t content in
    let left = all_left form t _ all in (
      (grind (arith, all, c.len.ensures form _ left, c.if-len-eq0.false, sym (c.is_ignored_array.ensures form t content) ∙ c.if-is_ignored_array.false)),
      left,
    )
