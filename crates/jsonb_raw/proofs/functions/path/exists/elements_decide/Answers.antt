use Rattle.jsonb_raw.proofs.Lemmas.{rules, refl, sym, ◌∙◌, array, texts_of, text_among, array_decided, decided, left_open, none_decided}
use Rattle.jsonb_raw.proofs.functions.path.exists.elements_decide.Goals as goal

-- many elements
pub returns-then-len-gt-FEW_ELEMENTS-clause-has : goal.returns-then-len-gt-FEW_ELEMENTS-clause-has
returns-then-len-gt-FEW_ELEMENTS-clause-has g c = λ left tells form ts h.
    rw (sym (array_decided c.args.found (left c.args.names) ts))
    (c.blocks_decide.ensures.has left tells form (texts_of ts) (record { trees = ts; left = h; texts = refl }))

pub returns-in_err-has-clause-has : goal.returns-in_err-has-clause-has
returns-in_err-has-clause-has g c = λ left tells form ts h. absurd (c.in_err-has.ensures.has form (texts_of ts) (record { trees = ts; left = h; texts = refl }))

pub returns-then-has-found-clause-has : goal.returns-then-has-found-clause-has
returns-then-has-found-clause-has g c = λ left tells form ts h.
    let e = rw (tells _ _ _ c.in-Some.ensures.steps) at (c.loop-name.invariant.left left tells form ts h) in
    decided c.args.found c.in_ok-has.has (array ts) c.in-Some.name.now (left c.next.new.self) _ c.if-has-found.true
    (rw (text_among c.in-Some.name.now ts) (rw c.as_bytes.ensures.value at (c.in_ok-has.ensures.has form (texts_of ts) (record { trees = ts; left = h; texts = refl })))) e

pub loop-name-preserved : goal.loop-name-preserved
loop-name-preserved g c = record {
  can = search rules;
  finite = search rules;
  left = λ left tells form ts h.
      let e = rw (tells _ _ _ c.in-Some.ensures.steps) at (c.loop-name.invariant.left left tells form ts h) in
      left_open c.args.found c.in_ok-has.has (array ts) c.in-Some.name.now (left c.next.new.self) _ c.if-has-found.false
      (rw (text_among c.in-Some.name.now ts) (rw c.as_bytes.ensures.value at (c.in_ok-has.ensures.has form (texts_of ts) (record { trees = ts; left = h; texts = refl })))) e;
}

pub returns-clause-has : goal.returns-clause-has
returns-clause-has g c = λ left tells form ts h.
    let e = rw (tells _ _ _ c.in-None.ensures.steps).0 at (c.loop-name.invariant.left left tells form ts h) in
    sym (none_decided c.args.found (array ts)) ∙ e
