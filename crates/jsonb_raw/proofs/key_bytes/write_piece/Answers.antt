use Rattle.jsonb_raw.proofs.Lemmas.{rules, run_ended}
use Rattle.jsonb_raw.proofs.key_bytes.write_piece.Goals as goal

pub returns-clause-bytes : goal.returns-clause-bytes
returns-clause-bytes c = search (
  rules,
  run_ended,
  c.plain_len-plain.ensures.within,
  c.if-plain-eq-PIECE.false,
  c.requires.room,
  c.copy_plain-end.ensures.bytes,
  c.write_byte.ensures.bytes,
)
