use Rattle.std.proofs.Common.{◌≤◌, Ok, Err, length, arith}
use Rattle.std.proofs.lemmas.Result.{err_from_is_err_and}
use Rattle.jsonb_c.proofs.MakingLemmas.{row_there}
use Rattle.jsonb_c.proofs.ObjectRows.{none_put, object_built, put_refused, put_row}
use Rattle.jsonb_c.proofs.build.object.object_of.Goals as goal

pub loop-index-init : goal.loop-index-init
loop-index-init c = λ form ts h. none_put form _ _ c.new-builder.ensures

pub returns-in_err-push_document-in-Some-clause-object : goal.returns-in_err-push_document-in-Some-clause-object
returns-in_err-push_document-in-Some-clause-object c = λ form ts h.
    let p = err_from_is_err_and c.from_residual.result c.from_residual.ensures.1 in
    rw (p.1, p.2) (put_refused form c.push_document.new.self c.loop-index.index _ _
    (put_row form c.loop-index.builder c.push_document.new.self c.loop-index.index c.args.names.now _ c.args.documents.now ts c.in-Some.document.now
    (Err c.in_err-push_document-in-Some.field-0.0) h c.in-Some.ensures c.loop-index-test.true (c.loop-index.invariant form ts h)
    (λ t d. c.in_err-push_document-in-Some.ensures.duplicate form t d)
    (λ ps t held d free. c.in_err-push_document-in-Some.ensures.pushed form ps t held d free)))

pub loop-index-preserved : goal.loop-index-preserved
loop-index-preserved c = λ form ts h.
    put_row form c.loop-index.builder c.push_document.new.self c.loop-index.index c.args.names.now _ c.args.documents.now ts c.in-Some.document.now
    (Ok tt) h c.in-Some.ensures c.loop-index-test.true (c.loop-index.invariant form ts h)
    (λ t d. c.in_ok-push_document-in-Some.ensures.duplicate form t d)
    (λ ps t held d free. c.in_ok-push_document-in-Some.ensures.pushed form ps t held d free)

pub returns-in-None-clause-object : goal.returns-in-None-clause-object
returns-in-None-clause-object c = λ form ts h. absurd (row_there form c.args.documents.now ts c.loop-index.index h c.in-None.ensures)

pub returns-clause-object : goal.returns-clause-object
returns-clause-object c = λ form ts h.
    let done : length c.args.names.now ≤ c.loop-index.index = omega (arith, c.loop-index-test.false) in
    object_built form c.loop-index.builder c.loop-index.index c.args.names.now ts c.build.result done
    (c.loop-index.invariant form ts h) (c.build.ensures.decodes form)
