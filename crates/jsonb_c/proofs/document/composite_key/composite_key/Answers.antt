use Rattle.std.proofs.Common.{◌≤◌, length, arith}
use Rattle.std.proofs.lemmas.Result.{err_from_is_err_and}
use Rattle.jsonb_raw.proofs.ColumnLemmas.{key_begun, key_appended, key_refused, key_written, none_left_of}
use Rattle.jsonb_c.specs.Making.{IsValueOf}
use Rattle.jsonb_c.proofs.MakingLemmas.{value_at, no_value_at}
use Rattle.jsonb_c.proofs.document.composite_key.composite_key.Goals as goal

pub loop-index-init : goal.loop-index-init
loop-index-init c = λ form values a. (values, a, rw c.new-key.ensures.items (key_begun _ values))

pub returns-in_err-push_row-in-Some-clause-key : goal.returns-in_err-push_row-in-Some-clause-key
returns-in_err-push_row-in-Some-clause-key c = λ form values a.
    let p = err_from_is_err_and c.from_residual.result c.from_residual.ensures.1 in
    let inv = c.loop-index.invariant form values a in
    let f = value_at form c.args.column.now c.loop-index.index c.in-Some.document.now inv.0 c.in-Some.ensures inv.1 in
    rw (p.1, p.2) (key_refused _ _ c.push_row.new.key.items f.first f.others values _ (rw f.whole at inv.2) (c.in_err-push_row-in-Some.ensures.key form f.first f.holds))

pub loop-index-preserved : goal.loop-index-preserved
loop-index-preserved c = λ form values a.
    let inv = c.loop-index.invariant form values a in
    let f = value_at form c.args.column.now c.loop-index.index c.in-Some.document.now inv.0 c.in-Some.ensures inv.1 in
    (f.others, f.left, key_appended _ _ _ f.first f.others values (rw f.whole at inv.2) (c.in_ok-push_row-in-Some.ensures.key form f.first f.holds))

pub returns-in-None-clause-key : goal.returns-in-None-clause-key
returns-in-None-clause-key c = λ form values a.
    let inv = c.loop-index.invariant form values a in
    absurd (no_value_at form c.args.column.now c.loop-index.index inv.0 c.in-None.ensures inv.1)

pub returns-clause-key : goal.returns-clause-key
returns-clause-key c = λ form values a.
    let inv = c.loop-index.invariant form values a in
    let long : length c.args.column.now ≤ c.loop-index.index = omega arith in
    key_written _ _ inv.0 values (none_left_of (IsValueOf form) c.args.column.now c.loop-index.index inv.0 long inv.1) inv.2
