use Rattle.std.proofs.Common.{◌≡◌, ◌∙◌, Some, Ok, Err}
use Rattle.std.proofs.lemmas.Result.{err_from_is_err_and}
use Rattle.jsonb.specs.PathGrammar.{json_path}
use Rattle.jsonb.specs.PathViews.{path_view}
use Rattle.jsonb.specs.Documents.{raw_bytes}
use Rattle.jsonb_tool.proofs.SelectionLemmas.{MatchesBy, Matches-found, Matches-refused}
use Rattle.jsonb_tool.proofs.output.path_match.Goals as goal

pub returns-in_err-truth : goal.returns-in_err-truth
returns-in_err-truth c =
    let path = path_view c.in_ok-steps.steps in
    let read : json_path c.args.path.now ≡ Some path = rw c.as_bytes.ensures.value at c.in_ok-steps.ensures in
    let matched : MatchesBy path (raw_bytes c.in_ok-document.document) (Err c.in_err-truth.field-0.0) = c.in_err-truth.ensures.truth in
    let p = err_from_is_err_and c.from_residual-in_err-truth.result c.from_residual-in_err-truth.ensures.1 in
    rw (p.1, p.2) (Matches-refused _ _ _ _ read c.in_ok-document.ensures.1 (rw c.in_ok-document.ensures.0 at matched))

pub returns : goal.returns
returns c =
    let path = path_view c.in_ok-steps.steps in
    let read : json_path c.args.path.now ≡ Some path = rw c.as_bytes.ensures.value at c.in_ok-steps.ensures in
    let matched : MatchesBy path (raw_bytes c.in_ok-document.document) (Ok c.in_ok-truth.truth) = c.in_ok-truth.ensures.truth in
    Matches-found _ _ _ c.in_ok-truth.truth _ read c.in_ok-document.ensures.1 (rw c.in_ok-document.ensures.0 at matched)
    (c.in_ok-from_str.ensures.ok ∙ c.truth_line.ensures)
