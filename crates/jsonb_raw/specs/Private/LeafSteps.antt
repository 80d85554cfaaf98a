-- The steps to leaves, as a walk makes them.
use Rattle.std.specs.Prelude.{◌≡◌, ◌++◌, [], ◌∷◌, ℕ, Bool, true, false, List, Option, Some, None, map}
use Rattle.std.specs.Borrow.{Bor}
use Rattle.std.specs.Int.{w32, cast_signed}
use Rattle.jsonb_doc.specs.Tree.{Tree}
use Rattle.jsonb_doc.specs.Payload.{Form}
use Rattle.jsonb_doc.specs.Value.{value_tree, value_parts}
use Rattle.jsonb_doc.specs.declared.value.Value.{Value}
use Rattle.jsonb_keypath.specs.declared.key_path.KeyPaths.{KeyPaths}
use Rattle.jsonb_keypath.specs.KeyPathGrammar.{Key, index, unquoted_name}
use Rattle.jsonb_keypath.specs.KeyPathViews.{key_paths_view}
use Rattle.jsonb_raw.specs.declared.functions.path.leaves.Step.{Step}
use Rattle.jsonb_raw.specs.declared.functions.path.leaves.Enclosing.{Enclosing}
use Rattle.jsonb_raw.specs.declared.level.ChildCursor.{ChildCursor}
use Rattle.jsonb_raw.specs.Private.Levels.{parts, HasPartsLeft}
use Rattle.jsonb_raw.specs.Leaves.{Leaf, is_leaf}

-- these leaves, with the steps to their container prepended
abbrev pub behind : List Key → List Leaf → List Leaf
behind steps within = map (λ leaf. (steps ++ leaf.0, leaf.1)) within

-- the steps to a leaf, and what is kept of it
abbrev pub IsKept : {A : Type 0} → (Tree → A → Type 0) → KeyPaths × A → Leaf → Type 0
IsKept IsOf kept leaf = (key_paths_view kept.0 ≡ leaf.0) × IsOf leaf.1 kept.1

-- one more is appended: what is kept of a leaf, with this path
pub record AppendsLeaf {A : Type 0} (Is : A → Type 0) (path : KeyPaths) (before after : List (KeyPaths × A)) : Type 0 where
  pub part : A
  pub pushed : after ≡ before ++ (path, part) ∷ []
  pub is : Is part

-- a value is this tree, and the numbers in it have the parts that they are stored with
abbrev pub IsValueOf : Tree → Value → Type 0
IsValueOf t value = (value_tree value ≡ t) × (value_parts value ≡ t)

-- the step to a part with this key, if any, and at this position
abbrev pub step_at : Option (Bor (List ℕ)) → ℕ → Key
step_at None n = index (cast_signed w32 n)
step_at (Some key) n = unquoted_name key.now

abbrev pub step_key : Step → Key
step_key step = step_at step.key step.index

abbrev pub step_keys : List Step → List Key
step_keys steps = map step_key steps

-- the steps within these containers
abbrev pub steps_within : List Enclosing → List Step
steps_within around = map (λ outer. outer.step) around

-- a child that is not a leaf has its own children left
abbrev pub IsEntered : Form → Bool → Tree → Option ChildCursor → Type 0
IsEntered form ignore_array t (Some level) = (is_leaf ignore_array t ≡ false) × HasPartsLeft form level (parts t)
IsEntered form ignore_array t None = is_leaf ignore_array t ≡ true
