use Rattle.jsonb_raw.proofs.Lemmas.{rules, refl, sym, ◌∙◌, object, keys, decided, left_open, none_decided}
use Rattle.jsonb_raw.proofs.functions.path.exists.keys_decide.Goals as goal

pub loop-name-init : goal.loop-name-init
loop-name-init g c = record { can = search rules; finite = search rules; cursor = c.new-cursor.ensures.cursor; left = λ left tells form ps are h. refl }

-- the name and those after it are looked up by a table
pub returns-then-len-gt-FEW_KEYS-clause-has : goal.returns-then-len-gt-FEW_KEYS-clause-has
returns-then-len-gt-FEW_KEYS-clause-has g c = λ left tells form ps are h.
    let e = rw (tells _ _ _ c.in-Some.ensures.steps) at (c.loop-name.invariant.left left tells form ps are h) in
    rw (sym e) (c.unsorted_decide.ensures.has left tells form ps are h)

pub returns-in_err-has-clause-has : goal.returns-in_err-has-clause-has
returns-in_err-has-clause-has g c = λ left tells form ps are h. absurd (c.in_err-has.ensures.has form (keys ps) (c.rewind-went_back.ensures.cursor form (keys ps) (c.loop-name.invariant.cursor form (keys ps) are h)))

pub returns-then-has-found-clause-has : goal.returns-then-has-found-clause-has
returns-then-has-found-clause-has g c = λ left tells form ps are h.
    let e = rw (tells _ _ _ c.in-Some.ensures.steps) at (c.loop-name.invariant.left left tells form ps are h) in
    decided c.args.found c.in_ok-has.has (object ps) c.in-Some.name.now (left c.next.new.self) _ c.if-has-found.true
    (rw c.as_bytes-in-Some.ensures.value at (c.in_ok-has.ensures.has form (keys ps) (c.rewind-went_back.ensures.cursor form (keys ps) (c.loop-name.invariant.cursor form (keys ps) are h)))) e

pub loop-name-preserved : goal.loop-name-preserved
loop-name-preserved g c = record {
  can = search rules;
  finite = search rules;
  cursor = λ form ks are h. c.in_ok-has.ensures.cursor form ks (c.rewind-went_back.ensures.cursor form ks (c.loop-name.invariant.cursor form ks are h));
  left = λ left tells form ps are h.
      let e = rw (tells _ _ _ c.in-Some.ensures.steps) at (c.loop-name.invariant.left left tells form ps are h) in
      left_open c.args.found c.in_ok-has.has (object ps) c.in-Some.name.now (left c.next.new.self) _ c.if-has-found.false
      (rw c.as_bytes-in-Some.ensures.value at (c.in_ok-has.ensures.has form (keys ps) (c.rewind-went_back.ensures.cursor form (keys ps) (c.loop-name.invariant.cursor form (keys ps) are h)))) e;
}

pub returns-clause-has : goal.returns-clause-has
returns-clause-has g c = λ left tells form ps are h.
    let e = rw (tells _ _ _ c.in_default.ensures.steps).0 at (c.loop-name.invariant.left left tells form ps are h) in
    sym (none_decided c.args.found (object ps)) ∙ e
