use Rattle.jsonb.proofs.Lemmas.{arith, sym, Locates, place_first}
use Rattle.jsonb.proofs.selector.first_item.first_of.Goals as goal

pub returns : goal.returns
returns c = λ form document ts no h.
    let placed = rw c.in-Nodes.is at h in
    let places = rw (sym c.as_slice.ensures) at placed in
    rw c.if-computed.false (place_first (Locates document.bytes.now) c.as_slice.result.now ts _ (omega (arith, c.in-len1-up.len_at_least)) places)
