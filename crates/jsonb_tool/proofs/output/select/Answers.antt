use Rattle.std.proofs.Common.{◌≡◌, Some, Ok, Err}
use Rattle.std.proofs.lemmas.Result.{err_from_is_err_and}
use Rattle.jsonb.specs.PathGrammar.{json_path}
use Rattle.jsonb.specs.PathViews.{path_view}
use Rattle.jsonb.specs.Documents.{raw_bytes}
use Rattle.jsonb_tool.proofs.SelectionLemmas.{SelectsBy, Selects-found, Selects-refused}
use Rattle.jsonb_tool.proofs.output.select.Goals as goal

pub returns-in_err-found : goal.returns-in_err-found
returns-in_err-found c =
    let path = path_view c.in_ok-steps.steps in
    let read : json_path c.args.path.now ≡ Some path = rw c.as_bytes.ensures.value at c.in_ok-steps.ensures in
    let selected : SelectsBy path (raw_bytes c.in_ok-document.document) (Err c.in_err-found.field-0.0) = c.in_err-found.ensures.values in
    let p = err_from_is_err_and c.from_residual-in_err-found.result c.from_residual-in_err-found.ensures.1 in
    rw (p.1, p.2) (Selects-refused _ _ _ _ read c.in_ok-document.ensures.1 (rw c.in_ok-document.ensures.0 at selected))

pub returns : goal.returns
returns c =
    let path = path_view c.in_ok-steps.steps in
    let read : json_path c.args.path.now ≡ Some path = rw c.as_bytes.ensures.value at c.in_ok-steps.ensures in
    let selected : SelectsBy path (raw_bytes c.in_ok-document.document) (Ok c.in_ok-found.found) = c.in_ok-found.ensures.values in
    let lines = rw c.deref.ensures.value at c.in_ok-found_lines.ensures in
    Selects-found _ _ _ _ _ read c.in_ok-document.ensures.1 (rw c.in_ok-document.ensures.0 at selected) lines.0 lines.1
