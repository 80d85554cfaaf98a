use Rattle.jsonb_doc.proofs.Lemmas.{refl, boolean}
use Rattle.jsonb_doc.proofs.event_list.writing.put_boolean.Goals as goal

pub returns-then-value : goal.returns-then-value
returns-then-value c = record {
  put = λ form coming around whole w.
      c.put_empty.ensures.put form (boolean c.args.value) coming around whole (rw c.if-value.true (refl, refl)) w;
}

pub returns : goal.returns
returns c = record {
  put = λ form coming around whole w.
      c.put_empty-2.ensures.put form (boolean c.args.value) coming around whole (rw c.if-value.false (refl, refl)) w;
}
