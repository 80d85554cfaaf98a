use Rattle.std.proofs.Common.{rules, ◌≡◌, Some, Ok, Err}
use Rattle.jsonb.specs.KeyPathGrammar.{key_path}
use Rattle.jsonb.specs.KeyPathViews.{key_paths_view}
use Rattle.jsonb.specs.Documents.{raw_bytes}
use Rattle.jsonb.proofs.IteratorLemmas.{iter_tells}
use Rattle.jsonb_tool.proofs.OutputLemmas.{LooksUp, Gets-found, Gets-refused}
use Rattle.jsonb_tool.proofs.output.get.Goals as goal

pub returns-in_err-found : goal.returns-in_err-found
returns-in_err-found c =
    let steps = key_paths_view c.in_ok-steps.steps in
    let read : key_path c.args.path.now ≡ Some steps = rw c.as_bytes.ensures.value at c.in_ok-steps.ensures in
    let said = c.in_err-found.ensures.place _ iter_tells in
    let looked : LooksUp steps (raw_bytes c.in_ok-document.document) (Err c.in_err-found.field-0.0) =
    λ form t d. rw (c.iter.ensures.rest, c.deref.ensures.value) at (said form t d) in
    let refused =
    Gets-refused _ _ _ _ read c.in_ok-document.ensures.1 (rw c.in_ok-document.ensures.0 at looked) in
    search (rules, refused)

pub returns : goal.returns
returns c =
    let steps = key_paths_view c.in_ok-steps.steps in
    let read : key_path c.args.path.now ≡ Some steps = rw c.as_bytes.ensures.value at c.in_ok-steps.ensures in
    let said = c.in_ok-found.ensures.place _ iter_tells in
    let looked : LooksUp steps (raw_bytes c.in_ok-document.document) (Ok c.in_ok-found.found) =
    λ form t d. rw (c.iter.ensures.rest, c.deref.ensures.value) at (said form t d) in
    let line = c.in_ok-found_line.ensures in
    Gets-found _ _ _ _ _ read c.in_ok-document.ensures.1 (rw c.in_ok-document.ensures.0 at looked) line.0 line.1
