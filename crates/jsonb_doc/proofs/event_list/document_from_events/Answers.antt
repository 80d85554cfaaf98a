use Rattle.jsonb_doc.proofs.Lemmas.{subst, Tree, Decodes, events_of, same_tree, tree_fails, write_fails, err_is}
use Rattle.jsonb_doc.proofs.event_list.document_from_events.Goals as goal

pub returns-in_err-collected-clause-complete : goal.returns-in_err-collected-clause-complete
returns-in_err-collected-clause-complete c = λ form t of.
    err_is _ _ _ _ c.from_residual.ensures.1 (tree_fails form c.args.keep_last c.args.events.now c.args.text.now t _ of (c.in_err-collected.ensures form))

pub returns-in_err-collected-clause-errors : goal.returns-in_err-collected-clause-errors
returns-in_err-collected-clause-errors c = λ form. err_is _ _ _ _ c.from_residual.ensures.1 (c.in_err-collected.ensures form)

pub returns-in_err-collected_document-clause-complete : goal.returns-in_err-collected_document-clause-complete
returns-in_err-collected_document-clause-complete c = λ form t of.
    let x = c.in_ok-collected.ensures in
    err_is _ _ _ _ c.from_residual-in_err-collected_document.ensures.1 (tree_fails form _ _ _ t _ of
    (write_fails form _ _ _ x.2 _ (events_of _ _ _ x.1 x.0 x.2 x.3 x.4 x.5) (c.in_err-collected_document.ensures.document form x.2 x.6)))

pub returns-in_err-collected_document-clause-errors : goal.returns-in_err-collected_document-clause-errors
returns-in_err-collected_document-clause-errors c = λ form.
    let x = c.in_ok-collected.ensures in
    err_is _ _ _ _ c.from_residual-in_err-collected_document.ensures.1 (write_fails form c.args.keep_last c.args.events.now c.args.text.now x.2 _
    (events_of c.args.keep_last c.args.events.now c.args.text.now x.1 x.0 x.2 x.3 x.4 x.5) (c.in_err-collected_document.ensures.document form x.2 x.6))

pub returns-clause-document : goal.returns-clause-document
returns-clause-document c = λ form.
    let x = c.in_ok-collected.ensures in
    (x.2, events_of c.args.keep_last c.args.events.now c.args.text.now x.1 x.0 x.2 x.3 x.4 x.5, c.in_ok-collected_document.ensures.document form x.2 x.6)

pub returns-clause-complete : goal.returns-clause-complete
returns-clause-complete c = λ form t of.
    let x = c.in_ok-collected.ensures in
    subst (λ (u : Tree). Decodes form c.in_ok-collected_document.field-0.items u)
    (same_tree c.args.keep_last c.args.events.now c.args.text.now x.1 x.0 x.2 t x.3 x.4 of) (c.in_ok-collected_document.ensures.document form x.2 x.6)
