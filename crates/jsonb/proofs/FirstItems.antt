-- The first item that a path selects, in place, or computed.
use Rattle.jsonb.proofs.Common.{◌≡◌, ℕ, ◌<◌, Bool, false, List, [], ◌∷◌, length, slice_index_or, Option, Some, None, is_some, MatchOption, refl, arith, AllZip, SameOption, Locates, Tree, Spot, IsFirstItem, Step, Expression, is_predicate, first_item, only_expression, FirstItem}
use Rattle.jsonb.specs.declared.selector.first_item.FirstItem.TheVariants.{At}

-- ---- paths that are expressions

pub expression_told : {A : Type 0} (view : A → Expression) (path : List Step) (found : Option A) (b : Bool) → b ≡ is_some found
    → MatchOption found (only_expression path ≡ None) (λ e. only_expression path ≡ Some (view e)) → b ≡ is_some (only_expression path)
expression_told view path found b is h = grind arith

pub is_expression : (path : List Step) (b : Bool) → b ≡ is_some (only_expression path) → b ≡ is_predicate path
is_expression path b h = grind arith

pub no_expression : (o : Option Expression) (b : Bool) → b ≡ is_some o → b ≡ false → o ≡ None
no_expression o b is f = grind arith

-- ---- the first item

-- what was found is the first item of a list with the same first
pub first_is : (bytes root : List ℕ) (computed told : Bool) (found : Option (FirstItem Spot)) (us ts : List Tree) → bytes ≡ root → computed ≡ told
    → first_item us ≡ first_item ts → SameOption (IsFirstItem (Locates bytes) computed) found (first_item us)
    → SameOption (IsFirstItem (Locates root) told) found (first_item ts)
first_is bytes root computed told found us ts same_bytes same_told same_item h = grind arith

pub place_first : {S : Type 0} (Marks : S → Tree → Type 0) (places : List S) (ts : List Tree) (e : S) → 0 < length places → AllZip Marks places ts
    → SameOption (IsFirstItem Marks false) (Some (At (slice_index_or places 0 e))) (first_item ts)
place_first Marks [] ts e some h = absurd (omega (arith, some))
place_first Marks (place ∷ places) [] e some h = absurd h
place_first Marks (place ∷ places) (t ∷ ts) e some h = (refl, h.0)
