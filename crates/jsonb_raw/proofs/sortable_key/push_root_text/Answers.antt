use Rattle.jsonb_raw.proofs.Lemmas.{IsUtf8-from_ascii, plain_ascii}
use Rattle.jsonb_raw.proofs.sortable_key.push_root_text.Goals as goal

pub push_plain_text-requires : goal.push_plain_text-requires
push_plain_text-requires c = (plain_ascii c.args.text.now (c.is_long_plain_ascii.ensures c.if-is_long_plain_ascii.true)).0

pub returns-then-is_long_plain_ascii-clause-utf8 : goal.returns-then-is_long_plain_ascii-clause-utf8
returns-then-is_long_plain_ascii-clause-utf8 c =
    IsUtf8-from_ascii c.args.text.now (plain_ascii c.args.text.now (c.is_long_plain_ascii.ensures c.if-is_long_plain_ascii.true)).1
