use Rattle.jsonb_doc.proofs.Lemmas.{arith, w32, ends_are, short_words}
use Rattle.jsonb_doc.proofs.equal_bytes.ends.Goals as goal

pub returns : goal.returns
returns c =
    ends_are w32 4 short_words c.args.bytes.now _ _ _ _ c.in_ok-first_chunk.ensures.cases.enough (λ i. omega (arith, c.type_inv.bytes i))
    c.in_ok-first_chunk.ensures.cases.same c.in_ok-last_chunk.ensures.cases.1.same c.from_be_bytes.ensures c.from_be_bytes-2.ensures
