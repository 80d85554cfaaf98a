use Rattle.jsonb_c.proofs.Paths.{refused_only}
use Rattle.jsonb_c.proofs.keypath.jdoc_keypath_error_position.Goals as goal

pub returns : goal.returns
returns c = (c.key_path_error_position.result, c.key_path_error_position.ensures, refused_only c.key_path_error_position.result _ _ c.key_path_error_position.ensures, c.store_found.ensures)
