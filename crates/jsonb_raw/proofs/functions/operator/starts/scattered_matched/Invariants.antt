use Rattle.jsonb_raw.proofs.Lemmas.{AllByRecursion, Trees, elements, Fits, Form, HasEntriesLeft, entries_bound, PassesOver, scalars_matched, DecideScalars}
use Rattle.jsonb_raw.proofs.functions.operator.starts.scattered_matched.Given as goal

-- the given entries that are left decide
abbrev pub invariant-loop-alloc : goal.invariant-loop-alloc
invariant-loop-alloc l = record {
  passes : PassesOver l.all l.searches.left;
  left : (form other_form : Form) (xs ys : Trees) → HasEntriesLeft form l.all xs → HasEntriesLeft other_form l.fn.wanted ys
      → AllByRecursion Fits (elements ys) → DecideScalars other_form l.rest (elements xs) (scalars_matched ys (elements xs));
}

abbrev pub decreases-loop-alloc : goal.decreases-loop-alloc
decreases-loop-alloc l = entries_bound l.rest
