use Rattle.jsonb_doc.proofs.Lemmas.{◌∷◌, refl, subst, Tree, IsWriting, arith, arith}
use Rattle.jsonb_doc.proofs.event_list.writing.put_plain_item.Goals as goal

pub returns-in-Null : goal.returns-in-Null
returns-in-Null c = record {
  put = λ form t coming around whole is w.
      let same = rw c.in-Null.is at is in
      c.put_empty.ensures.put form t coming around whole (rw same (refl, refl)) w;
}

pub returns-in-Number : goal.returns-in-Number
returns-in-Number c = record {
  put = λ form t coming around whole is w.
      let same = rw c.in-Number.is at is in
      (grind (arith, c.put_number.ensures.put form coming around whole (subst (λ (u : Tree). IsWriting form c.args.writer.now (u ∷ coming) around whole) same w)));
}
