use Rattle.jsonb_doc.proofs.Lemmas.{[], refl, keys_first, part_opened, err_is}
use Rattle.jsonb_doc.proofs.event_list.writing.begin.Goals as goal

pub returns-in_err-writer : goal.returns-in_err-writer
returns-in_err-writer c = record {
  begun = λ form room t h.
      let ms = c.in_ok-left.left.members.now in
      let o = part_opened c.args.all.now room c.args.run ms t h (c.in_ok-left.ensures.found room t h).0 in
      err_is _ _ _ _ c.from_residual-in_err-writer.ensures.1 (c.in_err-writer.ensures.opened form (keys_first c.args.run.kind ms o.trees) t (o.makes _ refl));
}

pub returns-in_err-put_keys_of : goal.returns-in_err-put_keys_of
returns-in_err-put_keys_of c = record {
  begun = λ form room t h.
      let o = part_opened _ room _ _ t h (c.in_ok-left.ensures.found room t h).0 in
      let opened = c.in_ok-writer.ensures.opened form (keys_first c.args.run.kind c.in_ok-left.left.members.now o.trees) t (o.makes _ refl) in
      err_is _ _ _ _ c.from_residual-in_err-put_keys_of.ensures.1 (c.in_err-put_keys_of.ensures.put form o.trees [] t opened);
}

pub returns : goal.returns
returns c = record {
  begun = λ form room t h.
      let found = c.in_ok-left.ensures.found room t h in
      let o = part_opened _ room _ _ t h found.0 in
      let opened = c.in_ok-writer.ensures.opened form (keys_first c.args.run.kind c.in_ok-left.left.members.now o.trees) t (o.makes _ refl) in
      record {
        trees = o.trees;
        holds = rw found.1 o.holds;
        writing = c.in_ok-put_keys_of.ensures.put form o.trees [] t opened;
      };
}
