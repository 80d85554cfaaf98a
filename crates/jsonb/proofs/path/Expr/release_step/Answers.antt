use Rattle.jsonb.proofs.Lemmas.{ap, arith, expression_parts, parts, unary_is}
use Rattle.jsonb.proofs.Common.{fewer_parts}
use Rattle.jsonb.specs.Private.Parts.{waiting_parts}
use Rattle.jsonb.proofs.path.Expr.release_step.Goals as goal

pub returns-in-UnaryOp : goal.returns-in-UnaryOp
returns-in-UnaryOp c =
    let whole = ap expression_parts (unary_is c.args.self c.in-UnaryOp.op c.in-UnaryOp.operand c.in-UnaryOp.is) in
    let next = ap parts c.into_inner.ensures in
    fewer_parts (parts c.args.self) (waiting_parts c.args.waiting) (parts c.into_inner.result) (waiting_parts c.args.waiting) (omega arith)
