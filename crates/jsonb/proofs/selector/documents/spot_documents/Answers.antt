use Rattle.jsonb.proofs.Lemmas.{◌<◌, ◌≤◌, ◌∙◌, length, arith, inl, take_more, take_all, Decodes, Locates, null, refused, err_is, related_length, related_at, related_more, list_refused}
use Rattle.jsonb.proofs.selector.documents.spot_documents.Goals as goal

pub returns-in_err-document-clause-documents : goal.returns-in_err-document-clause-documents
returns-in_err-document-clause-documents c = λ form top ts decodes h.
    let short : c.loop-position.position < length ts = omega (arith, related_length (Locates c.args.bytes.now) c.args.spots.now ts h) in
    let one = related_at (Locates c.args.bytes.now) c.args.spots.now ts c.loop-position.position _ null (omega arith) h in
    rw (err_is c.from_residual-in_err-document.ensures.1) (refused
    (inl (list_refused form ts c.loop-position.position null _ short (c.in_err-document.ensures.decodes form top _ decodes one))))

pub loop-position-preserved : goal.loop-position-preserved
loop-position-preserved c = record {
  documents = λ form top ts decodes h.
      let short : c.loop-position.position < length ts = omega (arith, related_length (Locates c.args.bytes.now) c.args.spots.now ts h) in
      let one = related_at (Locates c.args.bytes.now) c.args.spots.now ts c.loop-position.position _ null (omega arith) h in
      rw (take_more ts c.loop-position.position null short, c.push_reserved.ensures.items)
      (related_more (Decodes form) _ _ _ _ (c.loop-position.invariant.documents form top ts decodes h)
      (rw c.new.ensures (c.in_ok-document.ensures.decodes form top _ decodes one)));
  len = omega (arith, c.push_reserved.ensures.len, c.loop-position.invariant.len);
  room = c.push_reserved.ensures.capacity ∙ c.loop-position.invariant.room;
}

pub returns-clause-documents : goal.returns-clause-documents
returns-clause-documents c = λ form top ts decodes h.
    let long : length ts ≤ c.loop-position.position = omega (arith, related_length (Locates c.args.bytes.now) c.args.spots.now ts h) in
    record { ok = rw (take_all c.loop-position.position ts long) at (c.loop-position.invariant.documents form top ts decodes h); err = tt }
