use Rattle.jsonb_raw.proofs.Lemmas.{ℕ, Vec, Global, [], ◌∷◌, arith, inl, refl, ap, ◌∙◌, subst, Decodes, IsOutOfMemoryOrTooLarge, Around, IsWriting, strip, stripped, pushed, popped, none_around, empty_of, only_ok, failed, rooms-pushed}
use Rattle.jsonb_raw.proofs.functions.operator.stripping.strip_container.Goals as goal

pub returns-in_err-container-clause-stripped : goal.returns-in_err-container-clause-stripped
returns-in_err-container-clause-stripped c = λ form t h.
    let s = c.walk.invariant form t h in
    failed _ _ _ c.from_residual-in_err-container.ensures.1 (inl (c.in_err-container.ensures.put form s.begun.trees s.outside (strip t) s.begun.holds s.begun.writing))

pub returns-in_err-open-in-Some-clause-stripped : goal.returns-in_err-open-in-Some-clause-stripped
returns-in_err-open-in-Some-clause-stripped c = λ form t h.
    let s = c.walk.invariant form t h in
    let found = rw c.in-Some.is at (c.in_ok-container.ensures.put form s.begun.trees s.outside (strip t) s.begun.holds s.begun.writing) in
    failed _ _ _ c.from_residual-in_err-open-in-Some.ensures.1 (c.in_err-open-in-Some.ensures.entered form found.0 (stripped c.walk.left.is_object found.1) s.outside (strip t) found.2 found.4)

pub walk-smaller-in-Some : goal.walk-smaller-in-Some
walk-smaller-in-Some c =
    let read = rw c.in-Some.is at c.in_ok-container.ensures.room in
    let inner = c.in_ok-open-in-Some.ensures.room in
    omega (arith, rooms-pushed _ _ _ c.in_ok-push-in-Some.ensures.items, read, inner)

pub walk-preserved-in-Some : goal.walk-preserved-in-Some
walk-preserved-in-Some c = λ form t h.
    let s = c.walk.invariant form t h in
    let found = rw c.in-Some.is at (c.in_ok-container.ensures.put form s.begun.trees s.outside (strip t) s.begun.holds s.begun.writing) in
    record {
      outside = (c.in_ok-open-in-Some.open, stripped c.walk.left.is_object found.1) ∷ s.outside;
      are_left = pushed _ _ _ _ _ s.outside c.in_ok-push-in-Some.ensures.items (found.1, found.3, refl) s.are_left;
      begun = c.in_ok-open-in-Some.ensures.entered form found.0 (stripped c.walk.left.is_object found.1) s.outside (strip t) found.2 found.4;
    }

pub returns-in_default-clause-stripped : goal.returns-in_default-clause-stripped
returns-in_default-clause-stripped c = λ form t h.
    let s = c.walk.invariant form t h in
    let done = rw c.in-None.is at (c.in_ok-container.ensures.put form s.begun.trees s.outside (strip t) s.begun.holds s.begun.writing) in
    let none = none_around _ c.walk.around.items s.outside
    (empty_of c.walk.around.items (omega (arith, c.in_default.ensures.cases.0, c.walk.around.ok.0))) s.are_left in
    only_ok (λ (made : Vec ℕ Global). Decodes form made.items (strip t)) (IsOutOfMemoryOrTooLarge form (strip t)) c.finish.result
    (c.finish.ensures.written form (strip t) (subst (λ (os : Around). IsWriting form c.put_scalars.new.writer [] os (strip t)) none done))

pub returns-in_err-leave-in-None-clause-stripped : goal.returns-in_err-leave-in-None-clause-stripped
returns-in_err-leave-in-None-clause-stripped c = λ form t h.
    let s = c.walk.invariant form t h in
    let done = rw c.in-None.is at (c.in_ok-container.ensures.put form s.begun.trees s.outside (strip t) s.begun.holds s.begun.writing) in
    let p = popped _ _ _ c.in-Some-pop.outer s.outside s.are_left c.in-Some-pop.ensures.items in
    let closed = subst (λ (os : Around). IsWriting form c.put_scalars.new.writer [] os (strip t)) (p.2 ∙ ap (λ o. o ∷ p.1) p.3.2) done in
    failed _ _ _ c.from_residual-in_err-leave-in-None.ensures.1 (c.in_err-leave-in-None.ensures.left form (stripped c.in-Some-pop.outer.left.is_object p.3.0) p.1 (strip t) closed)

pub walk-smaller : goal.walk-smaller
walk-smaller c = omega (arith, rooms-pushed _ _ _ c.in-Some-pop.ensures.items)
