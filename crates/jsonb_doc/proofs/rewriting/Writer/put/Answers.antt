use Rattle.jsonb_doc.proofs.Lemmas.{arith, refl, ◌∙◌, room_for_one, one_filled, coming_passes, not_short, refused}
use Rattle.jsonb_doc.proofs.rewriting.Writer.put.Goals as goal

pub returns-then-entry-gt-MAX_CONTENT-clause-put : goal.returns-then-entry-gt-MAX_CONTENT-clause-put
returns-then-entry-gt-MAX_CONTENT-clause-put c = λ form t coming around whole is w.
    refused form whole _ refl
    (coming_passes form w.before _ _ around t coming w.t whole w.is_open w.are_around (λ short parts. not_short form t _ _ is (omega arith) short))

pub returns-clause-put : goal.returns-clause-put
returns-clause-put c = λ form t coming around whole is w.
    let pushed = c.in_ok-extend_from_slice.ensures.items in
    let set = c.set_words.ensures.set
    (room_for_one form w.before _ _ t coming w.t w.is_open _ _ _ is (omega arith) c.encode_entry_word-word.ensures _ pushed) in
    record {
      before = w.before;
      t = w.t;
      is_open = one_filled form w.before _ _ t coming w.t w.is_open _ _ _ is (omega arith) c.encode_entry_word-word.ensures _ _ _ pushed
          c.set_words.ensures.start set.1 set.2;
      are_around = w.are_around;
      within = set.0 ∙ w.within;
    }
