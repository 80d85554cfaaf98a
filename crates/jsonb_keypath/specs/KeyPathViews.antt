-- What a key path of the code stands for in the grammar.
use Rattle.std.specs.Prelude.{List, map, string_bytes}
use Rattle.std.specs.Cow.{cow_str_bytes}
use Rattle.jsonb_keypath.specs.declared.key_path.KeyPath.{KeyPath}
use Rattle.jsonb_keypath.specs.declared.key_path.KeyPath.TheVariants.{Index, QuotedName, Name}
use Rattle.jsonb_keypath.specs.declared.key_path.KeyPaths.{KeyPaths}
use Rattle.jsonb_keypath.specs.declared.owned.OwnedKeyPath.{OwnedKeyPath}
use Rattle.jsonb_keypath.specs.declared.owned.OwnedKeyPath.TheVariants as owned
use Rattle.jsonb_keypath.specs.declared.owned.OwnedKeyPaths.{OwnedKeyPaths}
use Rattle.jsonb_keypath.specs.KeyPathGrammar.{Key, index, quoted_name, unquoted_name}

-- The step of the grammar. A string is its bytes, borrowed or not.
abbrev pub key_view : KeyPath → Key
key_view (Index i) = index i
key_view (QuotedName text) = quoted_name (cow_str_bytes text)
key_view (Name text) = unquoted_name (cow_str_bytes text)

-- The steps of a key path.
abbrev pub key_paths_view : KeyPaths → List Key
key_paths_view k = map key_view k.paths.items

abbrev pub owned_key_view : OwnedKeyPath → Key
owned_key_view (owned.Index i) = index i
owned_key_view (owned.QuotedName text) = quoted_name (string_bytes text)
owned_key_view (owned.Name text) = unquoted_name (string_bytes text)

abbrev pub owned_key_paths_view : OwnedKeyPaths → List Key
owned_key_paths_view k = map owned_key_view k.paths.items
