use Rattle.std.proofs.Common.{◌≡◌, ◌++◌, ◌∷◌, [], ◌∙◌}
use Rattle.jsonb_c.specs.Private.LeafColumns.{HasRows, leaf_row}
use Rattle.jsonb_c.specs.Private.LeafColumns.{LeafRow, documents_of, paths_of}
use Rattle.jsonb_c.proofs.LeafRows.{document_more, path_more}
use Rattle.jsonb_c.proofs.leaves.LeafColumns.push.Goals as goal

pub returns-clause-row : goal.returns-clause-row
returns-clause-row c = λ found has.
    let row : LeafRow = leaf_row (c.args.path.now, c.args.document.now) in
    let text : c.as_bytes.result.now ≡ row.0 = c.as_bytes.ensures.value ∙ c.in_ok-text.ensures.ok in
    let bytes : c.as_bytes-2.result.now ≡ row.1 = c.as_bytes-2.ensures ∙ c.as_raw.ensures in
    let paths : HasRows c.push.new.self (paths_of found ++ row.0 ∷ []) = rw text at (c.in_ok-push.ensures.rows (paths_of found) has.0) in
    let documents : HasRows c.push-2.new.self (documents_of found ++ row.1 ∷ []) =
    rw bytes at (c.in_ok-push-2.ensures.rows (documents_of found) has.1) in
    (rw (path_more found row) paths, rw (document_more found row) documents)
