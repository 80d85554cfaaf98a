use Rattle.jsonb_raw.proofs.Lemmas.{List, Option, drop, IfSome, AllByRecursion, Tree, Form, AreColumns, raw_bytes, HasRoot, width_of, KeyLeft}
use Rattle.jsonb_raw.proofs.functions.operator.column_key.key_of_columns.Given as goal

-- what is written, followed by the keys of the columns that are left, is the whole
abbrev pub invariant-loop-column : goal.invariant-loop-column
invariant-loop-column l = record {
  left : (form : Form) (values : List (Option Tree)) → AreColumns form l.columns values
      → (rest : List (Option Tree)) × AreColumns form (drop l.column-index l.columns) rest × KeyLeft (width_of l.width) l.key.items rest values;
  read : AllByRecursion (λ column. IfSome column (λ raw. HasRoot (raw_bytes raw))) (drop l.column-index l.columns)
      → AllByRecursion (λ column. IfSome column (λ raw. HasRoot (raw_bytes raw))) l.columns;
}
