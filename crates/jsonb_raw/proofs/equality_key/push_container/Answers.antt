use Rattle.jsonb_raw.proofs.Lemmas.{◌++◌, ap, ◌∙◌, arith, all_left, count_of_trees, count_of_pairs}
use Rattle.jsonb_raw.proofs.equality_key.push_container.Goals as goal

pub returns-clause-key : goal.returns-clause-key
returns-clause-key c = λ form tree content.
    let all = c.in_ok-level.ensures.level form tree content in
    let left = all_left form tree _ all in (
      c.in_ok-push_count.ensures
          ∙ ap (λ x. c.args.out.now.items ++ x)
          (grind (arith, count_of_trees, count_of_pairs, all, c.of_level.ensures form tree all, c.len.ensures form _ left)),
      left,
    )
