use Rattle.jsonb.proofs.Lemmas.{number_view, calculation_refused}
use Rattle.jsonb_doc.specs.Arithmetic.{add, subtract, multiply, divide, modulo}
use Rattle.jsonb.proofs.selector.calculate.calculate.Goals as goal

pub returns-in-Add-clause-errors : goal.returns-in-Add-clause-errors
returns-in-Add-clause-errors c = λ mode. calculation_refused mode add (number_view c.args.left) (number_view c.args.right) c.add.result c.add.ensures

pub returns-in-Subtract-clause-errors : goal.returns-in-Subtract-clause-errors
returns-in-Subtract-clause-errors c = λ mode. calculation_refused mode subtract (number_view c.args.left) (number_view c.args.right) c.sub.result c.sub.ensures

pub returns-in-Multiply-clause-errors : goal.returns-in-Multiply-clause-errors
returns-in-Multiply-clause-errors c = λ mode. calculation_refused mode multiply (number_view c.args.left) (number_view c.args.right) c.mul.result c.mul.ensures

pub returns-in-Divide-clause-errors : goal.returns-in-Divide-clause-errors
returns-in-Divide-clause-errors c = λ mode. calculation_refused mode divide (number_view c.args.left) (number_view c.args.right) c.div.result c.div.ensures

pub returns-in-Modulo-clause-errors : goal.returns-in-Modulo-clause-errors
returns-in-Modulo-clause-errors c = λ mode. calculation_refused mode modulo (number_view c.args.left) (number_view c.args.right) c.rem.result c.rem.ensures
