use Rattle.jsonb_raw.proofs.Lemmas.{refl, word_packed}
use Rattle.jsonb_raw.proofs.key_bytes.pack_text.Goals as goal

pub returns-clause-bytes : goal.returns-clause-bytes
returns-clause-bytes c = word_packed c.args.text.now _ _ _ c.in_ok-word.ensures refl c.of_word.ensures.bytes
