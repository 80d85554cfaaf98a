-- The span of the first item that a path selects.
use Rattle.std.proofs.Common.{◌≡◌, Bool, false, true, List, ℕ, Option, Some, None, Result, Ok, Err, IsOkAnd, refl, inl, inr}
use Rattle.jsonb_doc.specs.Answer.{SameOption, Refines, IsOutOfMemory}
use Rattle.jsonb_doc.specs.Tree.{Tree}
use Rattle.jsonb_doc.specs.declared.error.Error.{Error}
use Rattle.jsonb.specs.FirstItems.{IsFirstItem}
use Rattle.jsonb.specs.declared.selector.first_item.FirstItem.{FirstItem}
use Rattle.jsonb.specs.declared.selector.first_item.FirstItem.TheVariants.{At, Computed}

module _ {S U : Type 0} (R : S → Tree → Type 0) (Q : U → Tree → Type 0) (computed : Bool) where
  -- the tree of an item that was found
  pub item_of : (item : FirstItem S) (found : Option (FirstItem S)) (wanted : Option Tree) → found ≡ Some item
      → SameOption (IsFirstItem R computed) found wanted → (t : Tree) × (wanted ≡ Some t) × IsFirstItem R computed item t
  item_of item found (Some t) is h = let k : IsFirstItem R computed item t = rw is at h in (t, refl, k)
  item_of item found None is h = absurd (rw is at h)

  pub nothing_of : (found : Option (FirstItem S)) (wanted : Option Tree) → found ≡ None
      → SameOption (IsFirstItem R computed) found wanted → SameOption (IsFirstItem Q computed) None wanted
  nothing_of found (Some t) is h = absurd (rw is at h)
  nothing_of found None is h = tt

-- what succeeds refines a meaning that does
pub succeeds : {A B : Type 0} (R : A → B → Type 0) (r : Result A Error) (y : B) → IsOkAnd r (λ x. R x y) → Refines R IsOutOfMemory r (Ok y)
succeeds R (Ok x) y h = record { ok = h; err = tt }
succeeds R (Err e) y h = absurd h
