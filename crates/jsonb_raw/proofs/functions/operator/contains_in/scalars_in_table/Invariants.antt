use Rattle.jsonb_raw.proofs.Lemmas.{List, AllByRecursion, Tree, Trees, elements, Fits, Form, HasEntriesLeft, scalars_matched, DecideScalars, HasKeysOf}
use Rattle.jsonb_raw.proofs.functions.operator.contains_in.scalars_in_table.Given as goal

-- the given entries that are left decide
abbrev pub invariant-loop-entry : goal.invariant-loop-entry
invariant-loop-entry l = record {
  table : (xs : List Tree) → HasKeysOf l.fn.table xs → HasKeysOf l.table xs;
  left : (form : Form) (xs : List Tree) (ys : Trees) → HasKeysOf l.fn.table xs → HasEntriesLeft form l.fn.wanted ys → AllByRecursion Fits (elements ys)
      → DecideScalars form l.entry-iterator xs (scalars_matched ys xs);
}
