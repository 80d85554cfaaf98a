-- The tree without the value at the steps of a key path.
use Rattle.std.specs.Prelude.{◌≡◌, ◌⊎◌, ℕ, zero, suc, List, [], ◌∷◌, ◌++◌, Option, Some, None, unwrap_or, option_map, option_and_then}
use Rattle.std.specs.Option.{option_to_list}
use Rattle.jsonb_doc.specs.Tree.{Tree, array, object, elements, members, trees_of, pairs_of}
use Rattle.jsonb_keypath.specs.KeyPathGrammar.{Key}
use Rattle.jsonb_raw.specs.Places.{location}

-- The list with the element at a position mapped; without a result the element is left out.
abbrev pub change_at : {A : Type 0} → ℕ → (A → Option A) → List A → List A
change_at n change [] = []
change_at zero change (x ∷ xs) = option_to_list (change x) ++ xs
change_at (suc n) change (x ∷ xs) = x ∷ change_at n change xs

-- The tree with its child at a position mapped; without a result the child is left out.
abbrev pub change_child : ℕ → (Tree → Option Tree) → Tree → Tree
change_child n change (array ts) = array (trees_of (change_at n change (elements ts)))
change_child n change (object ps) =
    object (pairs_of (change_at n (λ p. option_map (λ t. (p.0, t)) (change p.1)) (members ps)))
change_child n change t = t

-- The tree without the value at a location; without the whole, nothing.
abbrev pub remove_at : List ℕ → Tree → Option Tree
remove_at [] t = None
remove_at (n ∷ ns) t = Some (change_child n (remove_at ns) t)

-- The tree without the value at the steps; the same tree if they select nothing, or the whole.
abbrev pub without : List Key → Tree → Tree
without steps t = unwrap_or (option_and_then (λ ns. remove_at ns t) (location steps t)) t

-- Holds if the steps select nothing, or the whole.
abbrev pub MeetNoPart : List Key → Tree → Type 0
MeetNoPart steps t = (location steps t ≡ None) ⊎ (steps ≡ [])
