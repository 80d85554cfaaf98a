use Rattle.jsonb_raw.proofs.Lemmas.{arith, sym, ◌∙◌, subst, bytes_eq-true, name_read, IsPlaced}
use Rattle.jsonb_raw.proofs.functions.path.name_block.place_name.Goals as goal

pub returns-then-eq-clause-placed : goal.returns-then-eq-clause-placed
returns-then-eq-clause-placed c = λ _.
    let item = c.in-Some.ensures.lookup in
    let e = bytes_eq-true c.in-Some.other.now.now c.args.name.now (sym c.eq.ensures ∙ c.if-eq.true) in
    let first = rw (sym e) at c.first_place-first.ensures.place in
    subst (IsPlaced c.args.names.now c.loop-place.places) e (record {
      place = c.loop-place.place;
      low = rw c.loop-place.invariant.same (omega (arith, first, c.loop-place.auto.place));
      high = rw c.loop-place.invariant.same (omega (arith, first, c.loop-place-test.true));
      name = rw (sym c.from.ensures) (name_read _ _ c.in-Some.other.now item.3.0 item.1);
      before = λ k low less. c.loop-place.invariant.taken k (omega (arith, first, rw c.loop-place.invariant.same at low)) less;
    })
