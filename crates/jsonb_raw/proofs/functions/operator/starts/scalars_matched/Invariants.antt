use Rattle.jsonb_raw.proofs.Lemmas.{AllByRecursion, Trees, elements, Fits, Form, HasEntriesLeft, entries_bound, PassesOver, scalars_matched, DecideScalars}
use Rattle.jsonb_raw.proofs.functions.operator.starts.scalars_matched.Given as goal

-- the given entries that are left decide
abbrev pub invariant-walk : goal.invariant-walk
invariant-walk l = record {
  passes : PassesOver l.all l.left;
  left : (form other_form : Form) (xs ys : Trees) → HasEntriesLeft form l.all xs → HasEntriesLeft other_form l.fn.wanted ys
      → AllByRecursion Fits (elements ys) → DecideScalars other_form l.rest (elements xs) (scalars_matched ys (elements xs));
}

abbrev pub decreases-walk : goal.decreases-walk
decreases-walk l = entries_bound l.rest
