use Rattle.jsonb_raw.proofs.Lemmas.{rules, take-put_mid, run_copied}
use Rattle.jsonb_raw.proofs.key_bytes.copy_plain.Goals as goal

pub returns-clause-bytes : goal.returns-clause-bytes
returns-clause-bytes c = search (rules, run_copied, take-put_mid, c.copy_from_slice.ensures.after, c.requires.room, c.requires.within, c.requires.plain)
