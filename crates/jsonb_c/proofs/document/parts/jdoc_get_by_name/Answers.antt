use Rattle.std.proofs.Common.{List, ℕ}
use Rattle.jsonb_raw.specs.Children.{named_child}
use Rattle.jsonb_c.specs.Answers.{OfDocument}
use Rattle.jsonb_c.specs.Calls.{Finds}
use Rattle.jsonb_c.proofs.document.parts.jdoc_get_by_name.Goals as goal

pub returns-clause-named : goal.returns-clause-named
returns-clause-named c = λ _.
    let finds : List ℕ → Type 0 = λ name.
    OfDocument c.args.document.now (λ form t. Finds form (named_child name c.args.ignore_case t)) c.get_by_name.result in
    let found : finds c.in-Ok.name.now = λ form t d. (
      c.get_by_name.ensures.value form t (rw c.new-document.ensures d),
      c.get_by_name.ensures.none form t (rw c.new-document.ensures d),
    ) in (
      c.get_by_name.result,
      rw c.in-Ok.ensures.cases.0 at found,
      c.get_by_name.ensures.errors,
      c.deliver.ensures,
    )
