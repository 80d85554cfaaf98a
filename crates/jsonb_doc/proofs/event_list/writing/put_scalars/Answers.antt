use Rattle.jsonb_doc.proofs.Lemmas.{length, subst, arith, length-between, first_rest, IsPart, Part, first_part, err_is}
use Rattle.jsonb_doc.proofs.event_list.writing.put_scalars.Goals as goal

pub returns-in_err-put_plain-in-Plain-clause-put : goal.returns-in_err-put_plain-in-Plain-clause-put
returns-in_err-put_plain-in-Plain-clause-put c = λ form ds room ts around whole h w.
    let i = c.loop-left.invariant.values form ds room ts around whole h w in
    let f = first_part ds room c.loop-left.left.now i.0 _ _ (first_rest c.loop-left.left.now _ c.in-len1-up.len_at_least) i.1 in
    let part = subst (λ (p : Part). IsPart ds room p f.t) c.in-Plain.is f.part in
    err_is _ _ _ _ c.from_residual.ensures.1
    (c.in_err-put_plain-in-Plain.ensures.put form f.t f.rest around whole part (rw f.us_is at i.2))

pub returns-in_err-put_text-in-Text-clause-put : goal.returns-in_err-put_text-in-Text-clause-put
returns-in_err-put_text-in-Text-clause-put c = λ form ds room ts around whole h w.
    let i = c.loop-left.invariant.values form ds room ts around whole h w in
    let f = first_part ds room c.loop-left.left.now i.0 _ _ (first_rest c.loop-left.left.now _ c.in-len1-up.len_at_least) i.1 in
    let is = subst (λ (p : Part). IsPart ds room p f.t) c.in-Text.is f.part in
    err_is _ _ _ _ c.from_residual-in_err-put_text-in-Text.ensures.1
    (c.in_err-put_text-in-Text.ensures.put form f.rest around whole (rw is at (rw f.us_is at i.2)))

pub returns-in-Nested-clause-put : goal.returns-in-Nested-clause-put
returns-in-Nested-clause-put c = λ form ds room ts around whole h w.
    let i = c.loop-left.invariant.values form ds room ts around whole h w in
    let f = first_part ds room c.loop-left.left.now i.0 _ _ (first_rest c.loop-left.left.now _ c.in-len1-up.len_at_least) i.1 in
    (f.t, f.rest, subst (λ (p : Part). IsPart ds room p f.t) c.in-Nested.is f.part, f.others_hold, rw f.us_is at i.2)

pub loop-left-preserved-in_ok-put_plain-in-Plain : goal.loop-left-preserved-in_ok-put_plain-in-Plain
loop-left-preserved-in_ok-put_plain-in-Plain c = record {
  few = omega (arith, c.loop-left.invariant.few, length-between c.loop-left.left.now 1 (length c.loop-left.left.now) (omega arith));
  values = λ form ds room ts around whole h w.
      let i = c.loop-left.invariant.values form ds room ts around whole h w in
      let f = first_part ds room c.loop-left.left.now i.0 _ _ (first_rest c.loop-left.left.now _ c.in-len1-up.len_at_least) i.1 in
      let part = subst (λ (p : Part). IsPart ds room p f.t) c.in-Plain.is f.part in
      let put = c.in_ok-put_plain-in-Plain.ensures.put form f.t f.rest around whole part (rw f.us_is at i.2) in
      (f.rest, f.others_hold, put);
}

pub loop-left-preserved : goal.loop-left-preserved
loop-left-preserved c = record {
  few = omega (arith, c.loop-left.invariant.few, length-between c.loop-left.left.now 1 (length c.loop-left.left.now) (omega arith));
  values = λ form ds room ts around whole h w.
      let i = c.loop-left.invariant.values form ds room ts around whole h w in
      let f = first_part ds room c.loop-left.left.now i.0 _ _ (first_rest c.loop-left.left.now _ c.in-len1-up.len_at_least) i.1 in
      let is = subst (λ (p : Part). IsPart ds room p f.t) c.in-Text.is f.part in
      let put = c.in_ok-put_text-in-Text.ensures.put form f.rest around whole (rw is at (rw f.us_is at i.2)) in
      (f.rest, f.others_hold, put);
}
