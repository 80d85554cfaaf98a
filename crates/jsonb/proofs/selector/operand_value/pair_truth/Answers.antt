use Rattle.jsonb.proofs.Lemmas.{is_eq-slice_cmp, not, arith}
use Rattle.jsonb.proofs.selector.operand_value.pair_truth.Goals as goal

pub returns-in-Eq-String-String : goal.returns-in-Eq-String-String
returns-in-Eq-String-String c =
    let k = c.in-Eq-String-String in
    grind (arith, c.eq-in-Eq-String-String.ensures, is_eq-slice_cmp k.l.now k.r.now)

pub returns-in-NotEq-String-String : goal.returns-in-NotEq-String-String
returns-in-NotEq-String-String c =
    let k = c.in-NotEq-String-String in
    grind (arith, c.ne.ensures, not, is_eq-slice_cmp k.l.now k.r.now)
