use Rattle.jsonb_keypath.proofs.FrontLemmas.{grows-key_path_front}
use Rattle.jsonb_keypath.proofs.error_position.key_path_error_position.Goals as goal

pub overflow_sub-position : goal.overflow_sub-position
overflow_sub-position c =
    grows-key_path_front c.args.text.now tt c.in_ok-rest-in-Err-InvalidKeyPath.rest.now c.in_ok-rest-in-Err-InvalidKeyPath.ensures
