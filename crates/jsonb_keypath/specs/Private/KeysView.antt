-- The steps of several key paths.
use Rattle.std.specs.Prelude.{List, map}
use Rattle.jsonb_keypath.specs.declared.key_path.KeyPath.{KeyPath}
use Rattle.jsonb_keypath.specs.KeyPathGrammar.{Key}
use Rattle.jsonb_keypath.specs.KeyPathViews.{key_view}

-- the steps of these
abbrev pub keys_view : List KeyPath → List Key
keys_view keys = map key_view keys
