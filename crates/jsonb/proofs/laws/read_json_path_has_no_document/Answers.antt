use Rattle.jsonb.proofs.Lemmas.{read_has_none}
use Rattle.jsonb.proofs.laws.read_json_path_has_no_document.Goals as goal

pub returns : goal.returns
returns c = read_has_none c.args.text.now
