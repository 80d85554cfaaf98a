use Rattle.jsonb_doc.proofs.Lemmas.{arith, refl, HasDocument-headed, document_scalar, array_long, object_long}
use Rattle.jsonb_doc.proofs.container.read_container.Goals.{in_default-kind-via-in_default-kind, in_default-kind-via-in-Array+else-len-rest, in_default-kind-via-in-Object+else-len-rest-2}
use Rattle.jsonb_doc.proofs.container.read_container.Goals as goal

pub returns-in_default-split_header-clause-cut : goal.returns-in_default-split_header-clause-cut
returns-in_default-split_header-clause-cut c = (
  refl,
  λ r t d.
      let (kind, n, rest, headed) = HasDocument-headed r c.args.bytes.now (t, d) in
      c.in_default-split_header.ensures kind n rest headed,
)

pub returns-in_default-kind-clause-cut : goal.returns-in_default-kind-clause-cut
returns-in_default-kind-clause-cut c = (
  refl,
  λ r t d. elim c.in_default-kind.branch [
    | in_default-kind-via-in_default-kind w ↦
        let h = rw w.in_default-kind.is at c.in-Some-split_header.ensures in
        let s = document_scalar r _ _ _ h t d in
        c.in_default.ensures s.kind _ s.content (rw s.none at h) s.lone
    | in_default-kind-via-in-Array+else-len-rest w ↦ omega (arith, array_long r _ _ _ t d (rw w.in-Array.is at c.in-Some-split_header.ensures), w.if-len-rest.false)
    | in_default-kind-via-in-Object+else-len-rest-2 w ↦ omega (arith, object_long r _ _ _ t d (rw w.in-Object.is at c.in-Some-split_header.ensures), w.if-len-rest-2.false)
  ],
)
