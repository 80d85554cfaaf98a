use Rattle.jsonb_doc.proofs.Lemmas.{◌∙◌, room_there}
use Rattle.jsonb_doc.proofs.WriterLemmas.{filled}
use Rattle.jsonb_doc.proofs.rewriting.Writer.copy.Goals as goal

pub returns-clause-copied : goal.returns-clause-copied
returns-clause-copied c = λ form ts coming around whole h w.
    let pushed = c.in_ok-extend_from_slice.ensures.items in
    let set = c.set_words.ensures.set (room_there form w.before _ _ ts coming w.t w.is_open _ _ h.entries _ pushed) in
    record {
      before = w.before;
      t = w.t;
      is_open = filled form w.before _ _ ts coming w.t w.is_open _ _ h.entries _ _ _ pushed c.set_words.ensures.start set.1 set.2;
      are_around = w.are_around;
      within = set.0 ∙ w.within;
    }
