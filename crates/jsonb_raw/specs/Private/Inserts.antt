-- The place of a new member of an object.
use Rattle.std.specs.Prelude.{◌≡◌, ◌<◌, ℕ, true, false, List, ◌∷◌, ◌++◌, take, drop}
use Rattle.jsonb_doc.specs.Tree.{Tree, object, Pairs, members}
use Rattle.jsonb_doc.specs.ObjectBuilder.{insert_pair}
use Rattle.jsonb_raw.specs.Objects.{has_name}
use Rattle.jsonb_raw.specs.declared.functions.object.pair_parts.PairPlace.{PairPlace}

-- Holds if a member with this key and value is inserted at this place among the members.
abbrev pub IsInPlace : PairPlace → List ℕ → Tree → List (List ℕ × Tree) → Type 0
IsInPlace place name t ps =
    insert_pair name t ps ≡ take place.passed ps ++ (name, t) ∷ drop place.taken (drop place.passed ps)

-- Holds if members with this key are inserted at this place, in place of the member with the key if there is one.
pub record IsPlaceAmong (place : PairPlace) (name : List ℕ) (ps : Pairs) : Type 0 where
  pub there : 0 < place.taken → has_name name (object ps) ≡ true
  pub missing : place.taken ≡ 0 → has_name name (object ps) ≡ false
  pub inserted : (t : Tree) → IsInPlace place name t (members ps)
