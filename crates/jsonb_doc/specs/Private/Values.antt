-- Values that are being decoded, as trees.
use Rattle.std.specs.Prelude.{◌≡◌, ⊤, ℕ, List, map, String, string_bytes}
use Rattle.std.specs.declared.alloc.Global.{Global}
use Rattle.jsonb_doc.specs.Number as spec
use Rattle.jsonb_doc.specs.Tree.{Tree}
use Rattle.jsonb_doc.specs.View.{number_parts, number_view}
use Rattle.jsonb_doc.specs.declared.item.Item.{Item}
use Rattle.jsonb_doc.specs.declared.item.Item.TheVariants as item
use Rattle.jsonb_doc.specs.declared.number.Number.{Number}
use Rattle.jsonb_doc.specs.declared.value.Value.{Value}
use Rattle.jsonb_doc.specs.Value.{tree_seen}

-- the keys as their bytes
abbrev pub keyed : List (String Global × Tree) → List (List ℕ × Tree)
keyed es = map (λ e. (string_bytes e.0, e.1)) es

-- the trees of an array's values
abbrev pub trees_seen : (Number → spec.Number) → List Value → List Tree
trees_seen seen vs = map (tree_seen seen) vs

-- the trees of an object's entries, in the byte order of their keys
abbrev pub members_seen : (Number → spec.Number) → List (String Global × Value) → List (List ℕ × Tree)
members_seen seen es = keyed (map (λ e. (e.0, tree_seen seen e.1)) es)

-- a number that is not zero, or is the unsigned zero, is seen unchanged
abbrev pub KeepsNormal : (Number → spec.Number) → Type 0
KeepsNormal seen = (n : Number) → number_parts n ≡ number_view n → seen n ≡ number_view n

-- if the item is a number, it is seen as in the item's tree
abbrev pub SeesItem : (Number → spec.Number) → Item → Type 0
SeesItem seen (item.Number n) = seen n ≡ number_view n
SeesItem seen _ = ⊤
