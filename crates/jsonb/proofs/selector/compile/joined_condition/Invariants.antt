use Rattle.jsonb.proofs.Lemmas.{◌≡◌, List, reverse, expression_view, Branch, branches_of_whole, AreBranches, pending, waiting_left, parts_to_compile}
use Rattle.jsonb.proofs.selector.compile.joined_condition.Given as goal

-- the branches of the parts that are left, before the tests so far, are all
abbrev pub invariant-loop-next : goal.invariant-loop-next
invariant-loop-next l = (done : List Branch) × AreBranches (reverse l.tests.items) done
    × (pending (waiting_left l.next l.waiting.items) done ≡ branches_of_whole (expression_view l.e))

abbrev pub decreases-loop-next : goal.decreases-loop-next
decreases-loop-next l = parts_to_compile l.next l.waiting.items
