use Rattle.std.proofs.Common.{◌≤◌, Ok, Err, length, Vec, ℕ, arith}
use Rattle.std.proofs.lemmas.Result.{err_from_is_err_and}
use Rattle.std.specs.declared.alloc.Global.{Global}
use Rattle.jsonb_doc.specs.Private.Errors.{IsOutOfMemoryOrTooLarge}
use Rattle.jsonb_doc.specs.Format.{Decodes}
use Rattle.jsonb_doc.specs.Tree.{array, null, trees_of}
use Rattle.jsonb_doc.proofs.BuilderSteps.{front_step, front_built}
use Rattle.jsonb.proofs.SelectedParts.{left_first, left_none}
use Rattle.jsonb_c.proofs.MakingLemmas.{made_answer, row_decodes, row_there, rows_length}
use Rattle.jsonb_c.proofs.build.array_of.Goals as goal

pub returns-in_err-push_document-in-Some-clause-array : goal.returns-in_err-push_document-in-Some-clause-array
returns-in_err-push_document-in-Some-clause-array c = λ form ts h.
    let p = err_from_is_err_and c.from_residual.result c.from_residual.ensures.1 in
    let row = row_decodes form c.args.column.now ts c.loop-index.index c.in-Some.document.now h c.in-Some.ensures in
    let front = rw (left_first ts c.loop-index.index null row.0) at (c.loop-index.invariant form ts h) in
    rw (p.1, p.2) (front_step form c.loop-index.builder _ _ ts front {A = Unit {0}} c.push_document.new.self (Err c.in_err-push_document-in-Some.field-0.0)
    (λ us held. c.in_err-push_document-in-Some.ensures.pushed form us _ held row.1))

pub loop-index-preserved : goal.loop-index-preserved
loop-index-preserved c = λ form ts h.
    let row = row_decodes form c.args.column.now ts c.loop-index.index c.in-Some.document.now h c.in-Some.ensures in
    let front = rw (left_first ts c.loop-index.index null row.0) at (c.loop-index.invariant form ts h) in
    front_step form c.loop-index.builder _ _ ts front {A = Unit {0}} c.push_document.new.self (Ok tt)
    (λ us held. c.in_ok-push_document-in-Some.ensures.pushed form us _ held row.1)

pub returns-in-None-clause-array : goal.returns-in-None-clause-array
returns-in-None-clause-array c = λ form ts h. absurd (row_there form c.args.column.now ts c.loop-index.index h c.in-None.ensures)

pub returns-clause-array : goal.returns-clause-array
returns-clause-array c = λ form ts h.
    let long : length ts ≤ c.loop-index.index = let rows = rows_length form c.args.column.now ts h in omega arith in
    let front = rw (left_none ts c.loop-index.index long) at (c.loop-index.invariant form ts h) in
    made_answer (λ made. Decodes form made (array (trees_of ts))) (IsOutOfMemoryOrTooLarge form (array (trees_of ts))) c.build.result
    (front_built form c.loop-index.builder ts (λ (v : Vec ℕ Global). v.items) c.build.result front (c.build.ensures.decodes form))
