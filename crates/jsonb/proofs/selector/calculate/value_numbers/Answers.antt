use Rattle.jsonb.proofs.Lemmas.{rules, [], map, arith, value_view, answered, same_outcome, Is, related_of_map, one_more, refused_in, at_end, list_first, list_end, as_memory, Behind, numbers_of_values, number_behind}
use Rattle.jsonb.proofs.Progress.{at_start}
use Rattle.jsonb.proofs.selector.calculate.value_numbers.Goals as goal

pub loop-value-init : goal.loop-value-init
loop-value-init c = search (rules, at_start, Is, related_of_map, Behind)

pub returns-in_err-number_of-clause-meant : goal.returns-in_err-number_of-clause-meant
returns-in_err-number_of-clause-meant c = grind (arith, refused_in, list_first, Is, as_memory, numbers_of_values)

pub loop-value-preserved : goal.loop-value-preserved
loop-value-preserved c =
    one_more c.loop-value.invariant
    (list_first (Is value_view) c.args.values.now c.loop-value.value-index _ c.loop-value-test.true)
    (λ v before is held. rw (← is)
    (number_behind [] _ _ _ _ before held c.in_ok-push.ensures.items c.in_ok-number_of.ensures.meant.ok))

pub returns-clause-meant : goal.returns-clause-meant
returns-clause-meant c = same_outcome (numbers_of_values (map value_view c.args.values.now))
    (answered (at_end c.loop-value.invariant (list_end (Is value_view) c.args.values.now c.loop-value.value-index c.loop-value-test.false)))
