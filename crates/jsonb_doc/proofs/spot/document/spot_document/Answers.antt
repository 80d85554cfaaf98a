use Rattle.jsonb_doc.proofs.Lemmas.{Err, ap, ◌∙◌, arith, err_from_is_err_and, number_reader, kind_number, Container, entry_decodes, front_is_content, kind_known, other_kind}
use Rattle.jsonb_doc.proofs.spot.document.spot_document.Goals as goal

pub returns-then-content-le-MAX_CONTENT-clause-decodes : goal.returns-then-content-le-MAX_CONTENT-clause-decodes
returns-then-content-le-MAX_CONTENT-clause-decodes c = λ form top t decodes located.
    rw c.in_ok-scalar_document.ensures (record {
      document = entry_decodes (number_reader form) t (kind_number c.args.spot.kind) _ (kind_known _) (other_kind _ _ Container c.eq.ensures c.if-eq.false)
          (omega arith) (rw c.in_ok-content.ensures.2 (located.content form top decodes));
    })

pub returns-in-Some-clause-decodes : goal.returns-in-Some-clause-decodes
returns-in-Some-clause-decodes c = λ form top t decodes located.
    let front = front_is_content c.args.bytes.now _ _ c.args.spot.start c.args.spot.end 16 c.in_ok-content.ensures.2
    c.in-Some.ensures.cases.same (omega (arith, c.if-content-le-SHORT.true)) in
    rw (c.in_ok-short_document.ensures, front) (record {
      document = entry_decodes _ t _ _ (kind_known _) (other_kind _ _ Container c.eq.ensures c.if-eq.false)
          (omega (arith, c.if-content-le-SHORT.true)) (rw c.in_ok-content.ensures.2 (located.content form top decodes));
    })

pub returns-in_err-document-clause-decodes : goal.returns-in_err-document-clause-decodes
returns-in_err-document-clause-decodes c = λ form top t decodes located.
    let refused = err_from_is_err_and c.from_residual-in_err-document.result c.from_residual-in_err-document.ensures.1 in
    rw (refused.1 ∙ ap Err refused.2)
    (c.in_err-document.ensures.decodes form t (rw c.in_ok-content.ensures.2 (located.content form top decodes)))
