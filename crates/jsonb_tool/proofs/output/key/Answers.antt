use Rattle.std.proofs.Common.{Ok, Err}
use Rattle.std.proofs.lemmas.Result.{err_from_is_err_and}
use Rattle.jsonb.specs.Documents.{raw_bytes}
use Rattle.jsonb_tool.proofs.OutputLemmas.{MakesKeyOf, ShowsKeyOf-made, ShowsKeyOf-refused}
use Rattle.jsonb_tool.proofs.output.key.Goals as goal

pub returns-in_err-key : goal.returns-in_err-key
returns-in_err-key c =
    let made : MakesKeyOf (raw_bytes c.in_ok-document.document) (Err c.in_err-key.field-0.0) = c.in_err-key.ensures.key in
    let p = err_from_is_err_and c.from_residual-in_err-key.result c.from_residual-in_err-key.ensures.1 in
    rw (p.1, p.2) (ShowsKeyOf-refused _ _ c.in_ok-document.ensures.1 (rw c.in_ok-document.ensures.0 at made))

pub returns : goal.returns
returns c =
    let made : MakesKeyOf (raw_bytes c.in_ok-document.document) (Ok c.in_ok-key.key) = c.in_ok-key.ensures.key in
    let line = rw c.as_slice.ensures.value at c.in_ok-hexadecimal_line.ensures.1 in
    ShowsKeyOf-made _ c.in_ok-key.key _ c.in_ok-document.ensures.1 (rw c.in_ok-document.ensures.0 at made) line
