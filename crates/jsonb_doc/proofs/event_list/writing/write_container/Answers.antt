use Rattle.jsonb_doc.proofs.Lemmas.{ℕ, Vec, Global, [], ◌∷◌, arith, refl, ap, ◌∙◌, subst, nil_from_length, Decodes, IsOutOfMemoryOrTooLarge, Around, IsWriting, pushed, popped, none_around, only_ok, err_is}
use Rattle.jsonb_doc.proofs.event_list.writing.write_container.Goals as goal

pub walk-init : goal.walk-init
walk-init c = λ form room t h. grind (arith, c.in_ok-writer.ensures.begun form room t h)

pub returns-in_err-inner : goal.returns-in_err-inner
returns-in_err-inner c = record {
  written = λ form room t h.
      let s = c.walk.invariant form room t h in
      err_is _ _ _ _ c.from_residual-in_err-inner.ensures.1
      (c.in_err-inner.ensures.put form c.args.all.now c.walk.left.room s.begun.trees s.outside t s.begun.holds s.begun.writing);
}

pub returns-in_err-container-in-Some : goal.returns-in_err-container-in-Some
returns-in_err-container-in-Some c = record {
  written = λ form room t h.
      let s = c.walk.invariant form room t h in
      let found = rw c.in-Some.is at (c.in_ok-inner.ensures.put form c.args.all.now c.walk.left.room s.begun.trees s.outside t s.begun.holds s.begun.writing) in
      err_is _ _ _ _ c.from_residual-in_err-container-in-Some.ensures.1
      (c.in_err-container-in-Some.ensures.entered form found.0 found.1 s.outside t found.2 found.4);
}

pub walk-preserved-in-Some : goal.walk-preserved-in-Some
walk-preserved-in-Some c = λ form room t h.
    let s = c.walk.invariant form room t h in
    let found = rw c.in-Some.is at (c.in_ok-inner.ensures.put form c.args.all.now c.walk.left.room s.begun.trees s.outside t s.begun.holds s.begun.writing) in
    record {
      outside = (c.in_ok-container-in-Some.container, found.1) ∷ s.outside;
      are_left = pushed _ _ _ _ _ s.outside c.in_ok-push-in-Some.ensures.items (found.1, found.3, refl) s.are_left;
      begun = c.in_ok-container-in-Some.ensures.entered form found.0 found.1 s.outside t found.2 found.4;
    }

pub returns-in_default : goal.returns-in_default
returns-in_default c = record {
  written = λ form room t h.
      let s = c.walk.invariant form room t h in
      let done = rw c.in-None.is at (c.in_ok-inner.ensures.put form c.args.all.now c.walk.left.room s.begun.trees s.outside t s.begun.holds s.begun.writing) in
      let none = none_around _ c.walk.around.items s.outside
      (nil_from_length c.walk.around.items (omega (arith, c.in_default.ensures.cases.0, c.walk.around.ok.0))) s.are_left in
      only_ok (λ (made : Vec ℕ Global). Decodes form made.items t) (IsOutOfMemoryOrTooLarge form t) c.finish.result
      (c.finish.ensures.written form t (subst (λ (os : Around). IsWriting form c.put_scalars.new.writer [] os t) none done));
}

pub returns-in_err-leave-in-None : goal.returns-in_err-leave-in-None
returns-in_err-leave-in-None c = record {
  written = λ form room t h.
      let s = c.walk.invariant form room t h in
      let done = rw c.in-None.is at (c.in_ok-inner.ensures.put form c.args.all.now c.walk.left.room s.begun.trees s.outside t s.begun.holds s.begun.writing) in
      let p = popped _ _ _ c.in-Some-pop.outer s.outside s.are_left c.in-Some-pop.ensures.items in
      let closed = subst (λ (os : Around). IsWriting form c.put_scalars.new.writer [] os t) (p.2 ∙ ap (λ o. o ∷ p.1) p.3.2) done in
      err_is _ _ _ _ c.from_residual-in_err-leave-in-None.ensures.1 (c.in_err-leave-in-None.ensures.left form p.3.0 p.1 t closed);
}

pub walk-preserved : goal.walk-preserved
walk-preserved c = λ form room t h.
    let s = c.walk.invariant form room t h in
    let done = rw c.in-None.is at (c.in_ok-inner.ensures.put form c.args.all.now c.walk.left.room s.begun.trees s.outside t s.begun.holds s.begun.writing) in
    let p = popped _ _ _ c.in-Some-pop.outer s.outside s.are_left c.in-Some-pop.ensures.items in
    let closed = subst (λ (os : Around). IsWriting form c.put_scalars.new.writer [] os t) (p.2 ∙ ap (λ o. o ∷ p.1) p.3.2) done in
    record {
      outside = p.1;
      are_left = p.4;
      begun = record { trees = p.3.0; holds = p.3.1; writing = c.in_ok-leave-in-None.ensures.left form p.3.0 p.1 t closed };
    }
