use Rattle.jsonb_raw.proofs.Lemmas.{◌<◌, ◌≤◌, AllByRecursion, Trees, elements, Fits, Form, HasEntriesLeft, entries_bound, PassesOver, scalars_matched, DecideScalars}
use Rattle.jsonb_raw.proofs.functions.operator.starts.block_by.Given as goal

-- the given entries that are left decide
abbrev pub invariant-walk : goal.invariant-walk
invariant-walk g l = record {
  passes : PassesOver l.all l.searches.left;
  lower : entries_bound l.left ≤ entries_bound l.fn.rest;
  fewer : l.more < l.most → entries_bound l.left < entries_bound l.fn.rest;
  left : (form other_form : Form) (xs ys : Trees) → HasEntriesLeft form l.all xs → HasEntriesLeft other_form l.fn.rest ys
      → AllByRecursion Fits (elements ys) → DecideScalars other_form l.left (elements xs) (scalars_matched ys (elements xs));
}

abbrev pub decreases-walk : goal.decreases-walk
decreases-walk g l = entries_bound l.left
