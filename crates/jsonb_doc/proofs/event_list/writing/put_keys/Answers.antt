use Rattle.jsonb_doc.proofs.Lemmas.{◌++◌, map, subst, List, first_rest, text, IsWriting, Member, err_is}
use Rattle.jsonb_doc.specs.Private.EventParts.{member_keys}
use Rattle.jsonb_doc.proofs.event_list.writing.put_keys.Goals as goal

pub returns-in_err-put_text : goal.returns-in_err-put_text
returns-in_err-put_text c = record {
  put = λ form coming around whole w.
      let i = c.loop-left.invariant form coming around whole w in
      let first = subst (λ (ms : List Member). IsWriting form c.loop-left.writer (map text (member_keys ms) ++ coming) around whole) (first_rest c.loop-left.left.now _ c.in-len1-up.len_at_least) i in
      err_is _ _ _ _ c.from_residual.ensures.1 (c.in_err-put_text.ensures.put form _ around whole first);
}
