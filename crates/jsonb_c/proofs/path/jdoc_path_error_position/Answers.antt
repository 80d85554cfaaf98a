use Rattle.jsonb_c.proofs.Paths.{refused_only}
use Rattle.jsonb_c.proofs.path.jdoc_path_error_position.Goals as goal

pub returns : goal.returns
returns c = (c.json_path_error_position.result, c.json_path_error_position.ensures, refused_only c.json_path_error_position.result _ _ c.json_path_error_position.ensures, c.store_found.ensures)
