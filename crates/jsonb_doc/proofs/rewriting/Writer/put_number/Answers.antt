use Rattle.jsonb_doc.proofs.Lemmas.{refl, ap, ◌∙◌, entry_word, number_view, number, length-number_payload, content_stands, room_for_one, one_filled}
use Rattle.jsonb_doc.specs.declared.item.Item.TheVariants.{Number}
use Rattle.jsonb_doc.proofs.rewriting.Writer.put_number.Goals as goal

pub returns-clause-put : goal.returns-clause-put
returns-clause-put c = λ form coming around whole w.
    let n = c.args.number in
    let is = content_stands form (Number n) (number (number_view n)) refl c.in_ok-push_number_payload.ensures.fits in
    let short = length-number_payload (number_view n) in
    let word = c.encode_entry_word-word.ensures ∙ ap (entry_word 2) c.number_len.ensures in
    let pushed = c.in_ok-push_number_payload.ensures.pushed in
    let set = c.set_words.ensures.set
    (room_for_one form w.before _ _ _ coming w.t w.is_open _ _ _ is short word _ pushed) in
    record {
      before = w.before;
      t = w.t;
      is_open = one_filled form w.before _ _ _ coming w.t w.is_open _ _ _ is short word _ _ _ pushed c.set_words.ensures.start set.1 set.2;
      are_around = w.are_around;
      within = set.0 ∙ w.within;
    }
