use Rattle.jsonb_doc.specs.declared.error.Error.TheVariants.{InvalidKeyPath}
use Rattle.jsonb_c.specs.Representation.Prepared.{key_steps}
use Rattle.jsonb_c.specs.declared.status.Status.TheVariants.{Refused}
use Rattle.jsonb_c.proofs.PreparedLemmas.{prepares}
use Rattle.jsonb_c.proofs.keypath.jdoc_keypath_read.Goals as goal

pub returns : goal.returns
returns c = prepares (Refused InvalidKeyPath) key_steps _ _ _ _ c.parse_keys.ensures c.keep.ensures
