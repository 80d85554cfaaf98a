-- The parts that are selected, position by position.
use Rattle.jsonb.proofs.Common.{◌≡◌, ℕ, zero, suc, ◌+◌, ◌<◌, ◌≤◌, List, [], ◌∷◌, ◌++◌, length, get_or, drop, Some, refl, ap, inl, inr, arith, add-one, drop-cons, drop_of_length-le, Tree, Form, IsTooLarge, Locates, Parts, no_parts, HoldsElements, IsOutOfMemory, ◌or◌when◌, IsOutOfMemoryOrTooLarge, Error, Spot, array_too_large-element, MadeItem, OwnedJsonb, MakesOption, SameOption, Option, None, Ok, Result, slice_get, Vec, Any, AllZip, selected_len, array_of, IsMadeItem, IsNumberItem, AreSelected, node_spots, first_item, single_or_array, TooLarge, Document, NodeList, Selected}
use Rattle.jsonb_doc.specs.declared.number.Number.{Number}
use Rattle.std.specs.declared.alloc.Global.{Global}
use Rattle.jsonb.specs.declared.selector.selected.Selected.TheVariants as selected
pub use Rattle.jsonb_doc.proofs.Basics.{zip_more as related_more}

-- ---- related lists

pub related_length : {A B : Type 0} (R : A → B → Type 0) (xs : List A) (ys : List B) → AllZip R xs ys → length xs ≡ length ys
related_length R [] [] h = refl
related_length R (x ∷ xs) (y ∷ ys) h = ap suc (related_length R xs ys h.1)
related_length R _ _ h = absurd h

pub related_at : {A B : Type 0} (R : A → B → Type 0) (xs : List A) (ys : List B) (k : ℕ) (d : A) (e : B) → k < length xs → AllZip R xs ys
    → R (get_or xs k d) (get_or ys k e)
related_at R [] ys k d e short h = absurd (omega (arith, short))
related_at R (x ∷ xs) (y ∷ ys) zero d e short h = h.0
related_at R (x ∷ xs) (y ∷ ys) (suc k) d e short h = related_at R xs ys k d e (omega (arith, short)) h.1
related_at R _ _ k d e short h = absurd h

-- ---- what is selected

pub Selects-length : (form : Form) (document : Document) (s : Selected) (ts : List Tree) → AreSelected form document s ts → selected_len s ≡ length ts
Selects-length form document s ts h = grind (arith, related_length)

-- the spot at a position, and the part
pub Selects-spot : (form : Form) (document : Document) (s : Selected) (found : NodeList) (spots : List Spot) (ts : List Tree) (k : ℕ) (d : Spot) (e : Tree)
    → s ≡ selected.Nodes found → spots ≡ node_spots found → k < selected_len s → AreSelected form document s ts
    → Locates document.bytes.now (get_or spots k d) (get_or ts k e)
Selects-spot form document s found spots ts k d e is same short h = grind (arith, related_at)

pub Selects-number : (form : Form) (document : Document) (s : Selected) (numbers : Vec Number Global) (ts : List Tree) (k : ℕ) (d : Number) (e : Tree)
    → s ≡ selected.Numbers numbers → k < selected_len s → AreSelected form document s ts → IsNumberItem (get_or numbers.items k d) (get_or ts k e)
Selects-number form document s numbers ts k d e is short h = grind (arith, related_at)

pub Selects-made : (form : Form) (document : Document) (s : Selected) (part : MadeItem) (ts : List Tree) (k : ℕ) (e : Tree)
    → s ≡ selected.Made part → k < selected_len s → AreSelected form document s ts → IsMadeItem form part (get_or ts k e)
Selects-made form document s part ts k e is short h = grind arith

-- the result of an expression alone
pub made_alone : (form : Form) (part : MadeItem) (ts : List Tree) → AllZip (IsMadeItem form) (part ∷ []) ts
    → (t : Tree) × (ts ≡ t ∷ []) × IsMadeItem form part t
made_alone form part [] h = absurd h
made_alone form part (t ∷ []) h = (t, refl, h.0)
made_alone form part (t ∷ u ∷ ts) h = absurd h.1

-- the trees from a position on
pub left_first : (ts : List Tree) (k : ℕ) (e : Tree) → k < length ts → drop k ts ≡ get_or ts k e ∷ drop (k + 1) ts
left_first ts k e short = rw (add-one, drop-cons ts k e)

pub left_none : (ts : List Tree) (k : ℕ) → length ts ≤ k → drop k ts ≡ []
left_none ts k h = drop_of_length-le ts h

-- ---- documents

-- an empty builder holds nothing
pub none_held : (form : Form) (parts : Parts) → parts ≡ no_parts → HoldsElements form parts []
none_held form parts is = rw is (refl, refl)

-- one tree that is too large is among those that are
pub too_large_at : (form : Form) (ts : List Tree) (k : ℕ) (e : Tree) → k < length ts → IsTooLarge form (get_or ts k e) → Any (IsTooLarge form) ts
too_large_at form [] k e short h = absurd (omega (arith, short))
too_large_at form (t ∷ ts) zero e short h = (0, t, omega arith, refl, h)
too_large_at form (t ∷ ts) (suc k) e short h = let one = too_large_at form ts k e (omega (arith, short)) h in (suc one.0, one.1, omega (arith, one.2), one.3, one.4)

-- at most one tree is its own first
pub value_few : (ts : List Tree) → length ts ≤ 1 → single_or_array ts ≡ first_item ts
value_few ts h = grind arith

pub value_many : (ts : List Tree) → 1 < length ts → single_or_array ts ≡ Some (array_of ts)
value_many ts h = grind arith

-- the error of a part is one of the array that it goes into
pub part_refused : (form : Form) (ts : List Tree) (t u : Tree) (e : Error) → t ≡ u → IsOutOfMemoryOrTooLarge form u e
    → IsOutOfMemoryOrTooLarge form (array_of (ts ++ t ∷ [])) e
part_refused form ts t u e is h = grind (arith, array_too_large-element)

-- the document of an item that was found, or of none
module _ (form : Form) (R : Spot → Tree → Type 0) where
  pub found_made : (spot : Spot) (t : Option Tree) (r : Result (Option OwnedJsonb) Error) → SameOption R (Some spot) t
      → ((u : Tree) → R spot u → MakesOption form (Some u) r) → MakesOption form t r
  found_made spot (Some u) r same go = go u same
  found_made spot None r same go = absurd same

  pub none_made : (t : Option Tree) → SameOption R None t → MakesOption form t (Ok None)
  none_made (Some u) same = absurd same
  none_made None same = refl

-- the error of a part is one of the list
pub list_refused : (form : Form) (ts : List Tree) (k : ℕ) (d : Tree) (e : Error) → k < length ts → IsOutOfMemoryOrTooLarge form (get_or ts k d) e
    → (IsOutOfMemory or TooLarge when Any (IsTooLarge form) ts) e
list_refused form ts k d e short (inl memory) = inl memory
list_refused form ts k d e short (inr (large, past)) = inr (large, too_large_at form ts k d short past)
