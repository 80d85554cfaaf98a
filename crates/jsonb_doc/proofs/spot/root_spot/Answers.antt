use Rattle.jsonb_doc.proofs.Lemmas.{[], sym, arith, refl, append-nil, number_reader, Scalar, Decodes-scalar, IsCut-container, readable_root, Locates-root, scalar_end}
use Rattle.jsonb_doc.proofs.spot.root_spot.Goals as goal

pub returns-in-Scalar-clause-marks : goal.returns-in-Scalar-clause-marks
returns-in-Scalar-clause-marks c = λ t h.
    let e = c.in-Scalar.entry in
    let cut = rw c.in-Scalar.is at c.in_ok-entry.ensures.cut in
    let (front, joined) = scalar_end _ e cut in
    Locates-root _ _ t _ front _ [] joined refl (omega arith) (omega arith) h (λ form top d. Decodes-scalar form _ e cut top d)

pub returns-in-Scalar-clause-readable : goal.returns-in-Scalar-clause-readable
returns-in-Scalar-clause-readable c = readable_root c.args.bytes.now (Scalar c.in-Scalar.entry) (rw c.in-Scalar.is at c.in_ok-entry.ensures.cut)

pub returns-in_default : goal.returns-in_default
returns-in_default c = record {
  marks = λ t h.
      Locates-root _ _ t 5 [] _ [] (sym (append-nil c.args.bytes.now)) refl (omega arith) (omega arith) h (λ form top d. IsCut-container
      (number_reader form) _ _ c.in_ok-entry.ensures.cut c.in_default.not-Scalar top d.document);
  size = omega arith;
  readable = readable_root _ _ c.in_ok-entry.ensures.cut;
  errors = tt;
}
