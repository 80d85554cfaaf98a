-- Documents as events: what is there before and after each.
use Rattle.std.specs.Prelude.{ℕ, Bool, true, List, [], ◌∷◌, ◌++◌, Option, Some, None, is_some, is_none, unwrap_or, Result, Ok, Err, if◌then◌else◌}
use Rattle.std.specs.Result.{result_map_both}
use Rattle.jsonb_doc.specs.Tree.{Tree, null, array, object, trees_of, pairs_of}
use Rattle.jsonb_doc.specs.ObjectBuilder.{has_key, insert_pair}
use Rattle.jsonb_doc.specs.declared.error.Error.TheVariants.{ObjectDuplicateKey}
use Rattle.jsonb_doc.specs.declared.event_error.EventError.{EventError}
use Rattle.jsonb_doc.specs.declared.event_error.EventError.TheVariants.{OutOfOrder, Failed}

-- What is around the next event: the root, with its tree once it is complete, or an open container, with the elements
-- or the pairs so far, sorted by key, and the key whose value comes next.
pub data Level : Type 0 where
  root : Option Tree → Level
  array_of : List Tree → Level
  object_of : List (List ℕ × Tree) → Option (List ℕ) → Level

-- The innermost level, and those around it, the innermost first.
pub record State : Type 0 where
  pub inner : Level
  pub around : List Level

pub data Event : Type 0 where
  array_begins object_begins ends : Event
  key_is : List ℕ → Event
  value_is : Tree → Event

abbrev pub no_events : State
no_events = record { inner = root None; around = [] }

-- Whether a value may come next.
abbrev pub takes_value : Level → Bool
takes_value (root t) = is_none t
takes_value (array_of ts) = true
takes_value (object_of ps key) = is_some key

-- The level with a value.
abbrev pub filled : Tree → Level → Level
filled t (root _) = root (Some t)
filled t (array_of ts) = array_of (ts ++ t ∷ [])
filled t (object_of ps (Some key)) = object_of (insert_pair key t ps) None
filled t (object_of ps None) = object_of ps None

-- The level with a key, or the error.
abbrev pub with_key : List ℕ → Level → Result Level EventError
with_key key (object_of ps None) =
    if has_key key ps then Err (Failed ObjectDuplicateKey) else Ok (object_of ps (Some key))
with_key key _ = Err OutOfOrder

-- The container of a level that may end.
abbrev pub container : Level → Option Tree
container (array_of ts) = Some (array (trees_of ts))
container (object_of ps None) = Some (object (pairs_of ps))
container _ = None

abbrev pub with_inner : List Level → Result Level EventError → Result State EventError
with_inner around r = result_map_both (λ level. record { inner = level; around = around }) (λ e. e) r

abbrev pub with_value : Tree → Level → Result Level EventError
with_value t level = if takes_value level then Ok (filled t level) else Err OutOfOrder

-- The state in which this container is open.
abbrev pub within : Level → State → Result State EventError
within level s =
    if takes_value s.inner then Ok (record { inner = level; around = s.inner ∷ s.around }) else Err OutOfOrder

-- The state after a container has ended: it is a value of the level around it.
abbrev pub closed : Option Tree → List Level → Result State EventError
closed (Some t) (outer ∷ around) = with_inner around (with_value t outer)
closed _ _ = Err OutOfOrder

-- The state after an event, or the error if it cannot come next.
abbrev pub next : Event → State → Result State EventError
next array_begins s = within (array_of []) s
next object_begins s = within (object_of [] None) s
next (key_is key) s = with_inner s.around (with_key key s.inner)
next (value_is t) s = with_inner s.around (with_value t s.inner)
next ends s = closed (container s.inner) s.around

-- The tree of the document, if it is complete.
abbrev pub whole : Level → Option Tree
whole (root t) = t
whole _ = None

-- The tree of what a level has so far.
abbrev pub so_far : Level → Tree
so_far (root t) = unwrap_or t null
so_far (array_of ts) = array (trees_of ts)
so_far (object_of ps key) = object (pairs_of ps)
