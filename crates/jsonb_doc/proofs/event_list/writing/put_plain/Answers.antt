use Rattle.jsonb_doc.proofs.event_list.writing.put_plain.Goals as goal

pub returns-in-Some : goal.returns-in-Some
returns-in-Some c = record {
  put = λ form t coming around whole plain w.
      c.put_plain_item.ensures.put form t coming around whole (rw c.in-Some.is at (c.plain_item.ensures t plain)) w;
}
