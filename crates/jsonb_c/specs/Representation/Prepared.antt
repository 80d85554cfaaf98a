-- The paths and items that handles keep.
use Rattle.std.specs.Prelude.{ℕ, List, Option, Some, None, if◌then◌else◌}
use Rattle.jsonb.specs.KeyPathGrammar.{Key}
use Rattle.jsonb.specs.KeyPathViews.{key_paths_view}
use Rattle.jsonb.specs.PathTree.{Step, is_predicate}
use Rattle.jsonb.specs.PathViews.{path_view}
use Rattle.jsonb.specs.declared.selector.found.FoundItem.{FoundItem}
use Rattle.jsonb_c.specs.declared.prepared.path.PreparedPath.{PreparedPath}
use Rattle.jsonb_c.specs.declared.prepared.path.PreparedPath.TheVariants.{Items, Json, Keys}

-- The steps of the JSON path that a handle keeps, if it keeps one.
abbrev pub json_steps : Option PreparedPath → Option (List Step)
json_steps (Some (Json kept)) = Some (path_view kept.path)
json_steps _ = None

-- Its limit, if it has one.
abbrev pub json_limit : Option PreparedPath → Option ℕ
json_limit (Some (Json kept)) = kept.limit
json_limit _ = None

-- Its limit if it is a predicate.
abbrev pub predicate_limit : Option PreparedPath → Option ℕ
predicate_limit (Some (Json kept)) = if is_predicate (path_view kept.path) then kept.limit else None
predicate_limit _ = None

-- The steps of the key path that a handle keeps, if it keeps one.
abbrev pub key_steps : Option PreparedPath → Option (List Key)
key_steps (Some (Keys steps)) = Some (key_paths_view steps)
key_steps _ = None

-- The items that are still to be delivered, if the handle keeps items.
abbrev pub items_left : Option PreparedPath → Option (List FoundItem)
items_left (Some (Items left)) = Some left.items
items_left _ = None
