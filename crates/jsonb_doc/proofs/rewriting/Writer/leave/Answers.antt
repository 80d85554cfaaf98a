use Rattle.jsonb_doc.proofs.Lemmas.{◌≡◌, length, arith, refl, ap, ◌∙◌, entry_word, container_entry, room_for_one, one_filled, closed, done_len, coming_passes, not_short, refused}
use Rattle.jsonb_doc.proofs.rewriting.Writer.leave.Goals as goal

pub returns-then-len-gt-MAX_CONTENT-clause-left : goal.returns-then-len-gt-MAX_CONTENT-clause-left
returns-then-len-gt-MAX_CONTENT-clause-left c = λ form coming around whole w.
    let d = closed form w.before _ _ w.t w.is_open in
    let (front, u, outer, rest) = w.are_around in
    refused form whole _ refl (coming_passes form front _ _ around w.t coming u whole outer rest
    (λ short parts. not_short form w.t _ _ d.content (omega (arith, done_len form w.before _ _ w.t d, c.saturating_sub-len.ensures, c.len.ensures)) short))

pub returns-clause-left : goal.returns-clause-left
returns-clause-left c = λ form coming around whole w.
    let d = closed form w.before _ _ w.t w.is_open in
    let (front, u, outer, rest) = w.are_around in
    let size : c.saturating_sub-len.result ≡ length d.bytes = omega (arith, done_len form w.before _ _ w.t d, c.saturating_sub-len.ensures, c.len.ensures) in
    let word = c.encode_entry_word-word.ensures ∙ ap (entry_word container_entry) size in
    let set = c.set_words.ensures.set
    (room_for_one form front _ _ w.t coming u outer container_entry d.bytes _ d.content (omega (arith, size)) word _ d.joined) in
    record {
      before = front;
      t = u;
      is_open = one_filled form front _ _ w.t coming u outer container_entry d.bytes _ d.content (omega (arith, size)) word _ _ _ d.joined
          c.set_words.ensures.start set.1 set.2;
      are_around = rest;
      within = set.0 ∙ w.within;
    }
