use Rattle.jsonb_raw.proofs.Lemmas.{rules, ap, refl, sym, has_by, keys_left, ◌∙◌, object, keys, decided, left_open, none_decided}
use Rattle.jsonb_raw.proofs.functions.path.exists.unsorted_decide.Goals as goal

pub loop-name-init : goal.loop-name-init
loop-name-init g c = record {
  can = search rules;
  finite = search rules;
  left = λ left tells form ps are h.
      let strings = c.new-strings.ensures form (keys ps) (keys_left form _ (keys ps) h) in
      let table = c.fill.ensures form (keys ps) (c.new-table.ensures form (keys ps) are h) in (
        c.in_ok-has_first.ensures.strings form (keys ps) strings,
        c.in_ok-has_first.ensures.table form (keys ps) table,
        ap (λ n. has_by c.args.found (left n) (object ps)) c.into_iter-name-iterator.ensures.into_iter_gives
            ∙ left_open c.args.found c.in_ok-has_first.has_first (object ps) c.args.first.now (left c.args.names) _ c.if-has_first-found.false
            (rw c.as_bytes.ensures.value at (c.in_ok-has_first.ensures.has form (keys ps) strings table)) refl,
      );
}

pub returns-in_err-has_first-clause-has : goal.returns-in_err-has_first-clause-has
returns-in_err-has_first-clause-has g c = λ left tells form ps are h.
    absurd (c.in_err-has_first.ensures.has form (keys ps) (c.new-strings.ensures form (keys ps) (keys_left form _ (keys ps) h))
    (c.fill.ensures form (keys ps) (c.new-table.ensures form (keys ps) are h)))

pub returns-then-has_first-found-clause-has : goal.returns-then-has_first-found-clause-has
returns-then-has_first-found-clause-has g c = λ left tells form ps are h.
    let strings = c.new-strings.ensures form (keys ps) (keys_left form _ (keys ps) h) in
    let table = c.fill.ensures form (keys ps) (c.new-table.ensures form (keys ps) are h) in
    decided c.args.found c.in_ok-has_first.has_first (object ps) c.args.first.now (left c.args.names) _ c.if-has_first-found.true
    (rw c.as_bytes.ensures.value at (c.in_ok-has_first.ensures.has form (keys ps) strings table)) refl

pub returns-in_err-has-clause-has : goal.returns-in_err-has-clause-has
returns-in_err-has-clause-has g c = λ left tells form ps are h.
    let l = c.loop-name.invariant.left left tells form ps are h in
    absurd (c.in_err-has.ensures.has form (keys ps) l.0 l.1)

pub returns-then-has-found-clause-has : goal.returns-then-has-found-clause-has
returns-then-has-found-clause-has g c = λ left tells form ps are h.
    let l = c.loop-name.invariant.left left tells form ps are h in
    let e = rw (tells _ _ _ c.in-Some.ensures.steps) at l.2 in
    decided c.args.found c.in_ok-has.has (object ps) c.in-Some.name.now (left c.next.new.self) _ c.if-has-found.true
    (rw c.as_bytes-in-loop-name.ensures.value at (c.in_ok-has.ensures.has form (keys ps) l.0 l.1)) e

pub loop-name-preserved : goal.loop-name-preserved
loop-name-preserved g c = record {
  can = search rules;
  finite = search rules;
  left = λ left tells form ps are h.
      let l = c.loop-name.invariant.left left tells form ps are h in
      let e = rw (tells _ _ _ c.in-Some.ensures.steps) at l.2 in (
        c.in_ok-has.ensures.strings form (keys ps) l.0,
        c.in_ok-has.ensures.table form (keys ps) l.1,
        left_open c.args.found c.in_ok-has.has (object ps) c.in-Some.name.now (left c.next.new.self) _ c.if-has-found.false
            (rw c.as_bytes-in-loop-name.ensures.value at (c.in_ok-has.ensures.has form (keys ps) l.0 l.1)) e,
      );
}

pub returns-clause-has : goal.returns-clause-has
returns-clause-has g c = λ left tells form ps are h.
    let l = c.loop-name.invariant.left left tells form ps are h in
    let e = rw (tells _ _ _ c.in-None.ensures.steps).0 at l.2 in sym (none_decided c.args.found (object ps)) ∙ e
