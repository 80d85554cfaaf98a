use Rattle.jsonb_raw.proofs.Lemmas.{None, arith, subst, AllByRecursion, sym, drop_more, failed, key_begun, key_appended, key_refused, key_written, column_appended, first_left_of, none_left_of}
use Rattle.jsonb_raw.proofs.functions.operator.column_key.key_of_columns.Goals as goal

pub loop-column-init : goal.loop-column-init
loop-column-init c = record { left = λ form values a. (values, a, rw c.new-key.ensures.items (key_begun _ values)); read = λ all. all }

pub returns-in_err-push_column-clause-key : goal.returns-in_err-push_column-clause-key
returns-in_err-push_column-clause-key c = λ form values a.
    let inv = c.loop-column.invariant.left form values a in
    let f = first_left_of _ c.args.columns.now c.loop-column.column-index None inv.0 c.loop-column-test.true inv.1 in
    failed _ _ _ c.from_residual.ensures.1 (key_refused _ _ c.push_column.new.key.items f.first f.others values _ (rw f.whole at inv.2)
    (column_appended _ form _ f.first _ _ _ (λ tree d. c.in_err-push_column.ensures.key form tree d) c.in_err-push_column.ensures.missing f.holds))

pub loop-column-preserved : goal.loop-column-preserved
loop-column-preserved c = record {
  left = λ form values a.
      let inv = c.loop-column.invariant.left form values a in
      let f = first_left_of _ c.args.columns.now c.loop-column.column-index None inv.0 c.loop-column-test.true inv.1 in (
        f.others,
        f.left,
        key_appended _ _ _ f.first f.others values (rw f.whole at inv.2)
            (column_appended _ form _ f.first _ _ _ (λ tree d. c.in_ok-push_column.ensures.key form tree d) c.in_ok-push_column.ensures.missing f.holds),
      );
  read =
      λ others. c.loop-column.invariant.read (subst (AllByRecursion _) (sym
      (drop_more c.args.columns.now c.loop-column.column-index None c.loop-column-test.true)) (c.in_ok-push_column.ensures.reads, others));
}

pub returns-clause-key : goal.returns-clause-key
returns-clause-key c = λ form values a.
    let inv = c.loop-column.invariant.left form values a in
    key_written _ _ inv.0 values (none_left_of _ c.args.columns.now c.loop-column.column-index inv.0 (omega (arith, c.loop-column-test.false)) inv.1) inv.2
