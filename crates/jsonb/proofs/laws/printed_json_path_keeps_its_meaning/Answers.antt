use Rattle.jsonb.proofs.Lemmas.{prints_with_meaning, reads_back_if_read}
use Rattle.jsonb.proofs.laws.printed_json_path_keeps_its_meaning.Goals as goal

pub returns : goal.returns
returns c = prints_with_meaning c.args.text.now (reads_back_if_read c.args.text.now)
