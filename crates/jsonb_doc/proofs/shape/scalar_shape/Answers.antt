use Rattle.jsonb_doc.proofs.Lemmas.{ap, inl, inr, arith, number_reader, kind_number, known_only}
use Rattle.jsonb_doc.proofs.shape.scalar_shape.Goals as goal

pub returns-in-Container-clause-shape : goal.returns-in-Container-clause-shape
returns-in-Container-clause-shape c = λ form t h other.
    elim c.in-Container.is [
      | inl e ↦ other (ap kind_number e)
      | inr e ↦ known_only (number_reader form) _ _ (omega (arith, ap kind_number e)) (t, h)
    ]
