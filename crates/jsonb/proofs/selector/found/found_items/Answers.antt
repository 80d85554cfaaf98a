use Rattle.jsonb.proofs.Lemmas.{◌<◌, ◌≤◌, ◌∙◌, length, arith, inl, take_more, take_all, IsItemOf, null, refused, err_is, Selects-length, related_more, list_refused}
use Rattle.jsonb.proofs.selector.found.found_items.Goals as goal

pub returns-in_err-found_at-clause-items : goal.returns-in_err-found_at-clause-items
returns-in_err-found_at-clause-items c = λ form top ts decodes h.
    let short : c.loop-position.position < length ts = omega (arith, c.selected_len-len.ensures, Selects-length form c.args.document c.args.selected.now ts h) in
    rw (err_is c.from_residual-in_err-found_at.ensures.1) (refused
    (inl (list_refused form ts c.loop-position.position null _ short (c.in_err-found_at.ensures.item form c.args.document ts h null))))

pub loop-position-preserved : goal.loop-position-preserved
loop-position-preserved c = record {
  items = λ form ts h.
      let short : c.loop-position.position < length ts = omega (arith, c.selected_len-len.ensures, Selects-length form c.args.document c.args.selected.now ts h) in
      rw (take_more ts c.loop-position.position null short, c.push_reserved.ensures.items)
      (related_more (IsItemOf c.args.document.bytes.now form) _ _ _ _ (c.loop-position.invariant.items form ts h)
      (c.in_ok-found_at.ensures.item form c.args.document ts h null));
  len = omega (arith, c.push_reserved.ensures.len, c.loop-position.invariant.len);
  room = c.push_reserved.ensures.capacity ∙ c.loop-position.invariant.room;
}

pub returns-clause-items : goal.returns-clause-items
returns-clause-items c = λ form top ts decodes h.
    let long : length ts ≤ c.loop-position.position = omega (arith, c.selected_len-len.ensures, Selects-length form c.args.document c.args.selected.now ts h) in
    record { ok = rw (take_all c.loop-position.position ts long) at (c.loop-position.invariant.items form ts h); err = tt }
