-- Results for each of some items.
use Rattle.std.specs.Prelude.{◌≡◌, ◌+◌, ◌++◌, ℕ, List, [], ◌∷◌, slice_get, Option, Some, Result, Ok, Err, IfErr, ⊤}
use Rattle.std.specs.Borrow.{Bor}
use Rattle.std.specs.Fn.{Shared, FnReturns}
use Rattle.std.specs.List.{AllZip, AllByRecursion}
use Rattle.jsonb_doc.specs.Answer.{Outcome, Refines, IsOutOfMemory}
use Rattle.jsonb_doc.specs.Tree.{Tree}
use Rattle.jsonb_doc.specs.declared.error.Error.{Error}
use Rattle.jsonb_doc.specs.declared.spot.Spot.{Spot}
use Rattle.jsonb.specs.Compare.{Truth}
use Rattle.jsonb.specs.Values.{Value}
use Rattle.jsonb.specs.SelectionErrors.{IsSelectionError}
use Rattle.jsonb.specs.Private.Alike.{HasSame, AreAlike}
use Rattle.jsonb.specs.Private.Selection.{node_spots, values_view}
use Rattle.jsonb.specs.declared.selector.column.Column.{Column}
use Rattle.jsonb.specs.declared.selector.column.Column.TheVariants as column
use Rattle.jsonb.specs.declared.selector.document.Mode.{Mode}
use Rattle.jsonb.specs.declared.selector.document.Repeats.TheVariants.{AreDropped}
use Rattle.jsonb.specs.declared.selector.node_list.NodeList.{NodeList}
use Rattle.jsonb.specs.declared.selector.operand_value.OperandValues.{OperandValues}

-- the results that are stored
abbrev pub results : {A : Type 0} → Column A → List A
results (column.Same x) = x ∷ []
results (column.Each v) = v.items

-- the result for the item at an index
abbrev pub column_at : {A : Type 0} → Column A → ℕ → Option A
column_at (column.Same x) index = Some x
column_at (column.Each v) index = slice_get v.items index

-- each item has its result, in order; the same for each is that of one item at least
abbrev pub AreEach : {A B : Type 0} → (A → B → Type 0) → Column A → List B → Type 0
AreEach R (column.Same x) [] = ⊥
AreEach R (column.Same x) (t ∷ ts) = AllByRecursion (R x) (t ∷ ts)
AreEach R (column.Each v) ts = AllZip R v.items ts

-- the items have their results from an index on
abbrev pub AreFrom : {A B : Type 0} → (A → B → Type 0) → Column A → ℕ → List B → Type 0
AreFrom R c index [] = ⊤
AreFrom {A} R c index (t ∷ ts) = (x : A) × (column_at c index ≡ Some x) × R x t × AreFrom R c (1 + index) ts

-- the function may return this at references to two values
pub record ReturnsAtBoth {F A B C : Type 0} (g : Shared F (Bor A × (Bor B × Unit {0})) C) (f : F) (x : A) (y : B)
    (z : C) : Type 0 where
  pub first : Bor A
  pub second : Bor B
  pub shows : (first.now ≡ x) × (second.now ≡ y)
  pub says : FnReturns g f (first, (second, tt)) z

-- each result is made of an item, and the same for each of the only one
abbrev pub AreMade : {A : Type 0} → (Spot → A → Type 0) → List Spot → Column A → Type 0
AreMade R (spot ∷ []) (column.Same x) = R spot x
AreMade R (spot ∷ []) (column.Each v) = ⊥
AreMade R spots (column.Each v) = AllZip R spots v.items
AreMade R spots c = ⊥

-- each result of the second column is made of that of the first
abbrev pub AreMapped : {A B : Type 0} → (A → B → Type 0) → Column A → Column B → Type 0
AreMapped R (column.Same x) (column.Same y) = R x y
AreMapped R (column.Each v) (column.Each w) = AllZip R v.items w.items
AreMapped R c d = ⊥

abbrev pub ArePairs : {A B C : Type 0} → (A → B → C → Type 0) → List A → List B → List C → Type 0
ArePairs R [] ys [] = ⊤
ArePairs R xs [] [] = ⊤
ArePairs R (x ∷ xs) (y ∷ ys) (z ∷ zs) = R x y z × ArePairs R xs ys zs
ArePairs R xs ys zs = ⊥

-- each result of the third column is made of those of the other two
abbrev pub AreBoth : {A B C : Type 0} → (A → B → C → Type 0) → Column A → Column B → Column C → Type 0
AreBoth R (column.Same x) (column.Same y) (column.Same z) = R x y z
AreBoth R (column.Same x) (column.Each v) (column.Each w) = AllZip (R x) v.items w.items
AreBoth R (column.Each u) (column.Same y) (column.Each w) = AllZip (λ x z. R x y z) u.items w.items
AreBoth R (column.Each u) (column.Each v) (column.Each w) = ArePairs R u.items v.items w.items
AreBoth R c d made = ⊥

-- no result has another error than those of a selection
abbrev pub AreSound : {A : Type 0} → Mode → Column (Result A Error) → Type 0
AreSound mode c = AllByRecursion (λ x. IfErr x (IsSelectionError mode)) (results c)

-- ---- results of paths and expressions

abbrev pub IsTruth : Outcome Truth → Outcome Truth → Type 0
IsTruth said o = Refines (λ b c. b ≡ c) IsOutOfMemory said o

abbrev pub IsList : List ℕ → Outcome NodeList → Outcome (List Tree) → Type 0
IsList bytes said o = Refines (λ found us. HasSame AreDropped bytes (node_spots found) us) IsOutOfMemory said o

abbrev pub AreValues : Outcome OperandValues → Outcome (List Value) → Type 0
AreValues said o = Refines (λ values vs. AreAlike (values_view values) vs) IsOutOfMemory said o

-- the results of these items are those of the function

abbrev pub AreTruths : (Tree → Outcome Truth) → List Tree → Column (Outcome Truth) → Type 0
AreTruths f ts c = AreEach (λ said t. IsTruth said (f t)) c ts

abbrev pub AreLists : List ℕ → (Tree → Outcome (List Tree)) → List Tree → Column (Outcome NodeList) → Type 0
AreLists bytes g ts c = AreEach (λ said t. IsList bytes said (g t)) c ts

abbrev pub AreValuesOf : (Tree → Outcome (List Value)) → List Tree → Column (Outcome OperandValues) → Type 0
AreValuesOf h ts c = AreEach (λ said t. AreValues said (h t)) c ts

-- the items of all lists, one list after the other
abbrev pub flat : List (Outcome NodeList) → List Spot
flat [] = []
flat (Ok items ∷ lists) = node_spots items ++ flat lists
flat (Err e ∷ lists) = flat lists

-- there is an item
abbrev pub HasSome : List Tree → Type 0
HasSome [] = ⊥
HasSome (t ∷ ts) = ⊤
