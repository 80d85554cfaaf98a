use Rattle.jsonb_doc.proofs.Lemmas.{refl, text}
use Rattle.jsonb_doc.proofs.event_list.writing.put_text.Goals as goal

pub returns : goal.returns
returns c = record {
  put = λ form coming around whole w.
      c.put.ensures.put form (text c.args.content.now) coming around whole (rw c.as_bytes.ensures.value (refl, refl, c.utf8.content)) w;
}
