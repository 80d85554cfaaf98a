use Rattle.jsonb_keypath.proofs.PlainReadsBack.{plain_reads_back}
use Rattle.jsonb_keypath.proofs.laws.plain_key_paths_read_back.Goals as goal

pub returns : goal.returns
returns c = plain_reads_back
