use Rattle.jsonb_c.specs.declared.status.Status.TheVariants.{NotJsonPath}
use Rattle.jsonb_c.specs.Representation.Prepared.{json_steps}
use Rattle.jsonb_c.proofs.PreparedLemmas.{prepares, unlimited}
use Rattle.jsonb_c.proofs.path.jdoc_path_read.Goals as goal

pub returns-clause-path : goal.returns-clause-path
returns-clause-path c = prepares NotJsonPath json_steps _ _ _ _ c.parse_json.ensures.path c.keep.ensures

pub returns-clause-limit : goal.returns-clause-limit
returns-clause-limit c = unlimited _ _ _ c.parse_json.ensures.limit c.keep.ensures
