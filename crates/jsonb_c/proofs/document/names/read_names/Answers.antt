use Rattle.std.proofs.Common.{◌∙◌, ap, sym, inr, map, option_copied, Err}
use Rattle.std.proofs.lemmas.Result.{err_from_is_err_and}
use Rattle.jsonb_c.proofs.Names.{names_more, names_wrong, pushed_name}
use Rattle.jsonb_c.proofs.document.names.read_names.Goals as goal

pub returns-in_err-name : goal.returns-in_err-name
returns-in_err-name c =
    let p = err_from_is_err_and c.from_residual.result c.from_residual.ensures.1 in
    let wrong = names_wrong c.args.column.now c.loop-index.index (option_copied c.row.result)
    (map (λ n. n.now) c.loop-index.names.items) c.in_err-name.field-0.0
    c.row.ensures c.in_err-name.ensures c.loop-index.invariant in
    rw p.1 (inr (wrong ∙ ap Err (sym p.2)))

pub loop-index-preserved : goal.loop-index-preserved
loop-index-preserved c =
    let pushed = pushed_name _ _ _ c.in_default.ensures.items in
    rw pushed
    (names_more c.args.column.now c.loop-index.index (option_copied c.row.result) (map (λ n. n.now) c.loop-index.names.items) c.in_ok-name.name.now
    c.row.ensures c.in_ok-name.ensures c.loop-index.invariant)
