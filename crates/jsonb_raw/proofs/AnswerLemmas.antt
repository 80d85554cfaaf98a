-- Results of calls, lists, loops that make one value for each part, and what an item says of its tree.
use Rattle.jsonb_raw.proofs.Common.{◌≡◌, Option, None, Result, Ok, IsOkAnd, IsErrAnd, MatchResult, arith, Error, Tree, Form, IsOutOfMemory, MakesOption, Finds, OwnedJsonb, ℕ, suc, ◌+◌, ◌<◌, List, [], ◌∷◌, length, drop, get_or, refl, sym, ap, ◌∙◌, add-one, drop-cons, ◌++◌, subst, append_assoc, append-nil, AllZip, zip_more, ℤ, Bool, Bor, StandsFor, Item, Boolean, String, HasShape, Shape, text_of, IsWholeNumber}
use Rattle.std.specs.List.{Any}
use Rattle.jsonb_doc.specs.declared.number.Number as code
use Rattle.jsonb_doc.specs.declared.item.Item.TheVariants.{Number}
use Rattle.jsonb_doc.specs.declared.shape.Shape.TheVariants as shapes

pub answered : {A : Type 0} (P : A → Type 0) (r : Result A Error) → IsOkAnd r P → MatchResult r P IsOutOfMemory
answered P r h = grind arith

-- the error that `?` returns is that of the call
pub failed : {T E : Type 0} (P : T → Type 0) (Q : E → Type 0) {e : E} (r : Result T E) → IsErrAnd r (λ y. y ≡ e) → Q e → MatchResult r P Q
failed h e k = grind arith

-- ---- what is found

pub found_made : (form : Form) (wanted : Option Tree) (r : Result (Option OwnedJsonb) Error) → Finds form wanted r → MakesOption form wanted r
found_made form wanted r h = grind arith

pub found_none : (form : Form) (wanted : Option Tree) (r : Result (Option OwnedJsonb) Error) → Finds form wanted r → wanted ≡ None → r ≡ Ok None
found_none form wanted r h k = grind arith

-- Binds a fact to a variable. The value of a `let` is written out in each term that is filled in, and checked again.
pub given : {A B : Type 0} → A → (A → B) → B
given fact f = f fact

pub drop_first : {A : Type 0} (xs : List A) (i : ℕ) (x : A) → i < length xs → x ≡ get_or xs i x → drop i xs ≡ x ∷ drop (i + 1) xs
drop_first xs i x inside is = rw add-one (drop-cons xs i x inside ∙ ap (λ y. y ∷ drop (suc i) xs) (sym is))

-- R holds of what was made and the parts at the front
pub record Made {A B : Type 0} (R : A → B → Type 0) (made : List A) (left whole : List B) : Type 0 where
  pub front : List B
  pub each : AllZip R made front
  pub joined : front ++ left ≡ whole

-- at first nothing is made
pub none_made : {A B : Type 0} (R : A → B → Type 0) (made : List A) (whole : List B) → made ≡ [] → Made R made whole whole
none_made R made whole is = record { front = []; each = rw is tt; joined = refl }

-- with a value for the next part, the rest is left
pub one_made : {A B : Type 0} (R : A → B → Type 0) (made made' : List A) (x : A) (y : B) (left whole : List B) → made' ≡ made ++ x ∷ [] → R x y
    → Made R made (y ∷ left) whole → Made R made' left whole
one_made R made made' x y left whole is r m = grind (arith, zip_more, append_assoc)

-- at last each is made
pub all_made : {A B : Type 0} (R : A → B → Type 0) (made : List A) (whole : List B) → Made R made [] whole → AllZip R made whole
all_made R made whole m = subst (AllZip R made) (sym (append-nil m.front) ∙ m.joined) m.each

pub any_here : {B : Type 0} (P : B → Type 0) (front left : List B) (y : B) → P y → Any P (front ++ y ∷ left)
any_here P [] left y p = (0, y, omega arith, refl, p)
any_here P (x ∷ xs) left y p =
    let more = any_here P xs left y p in (suc more.0, more.1, omega (arith, more.2), more.3, more.4)

-- what holds of the next part holds of one of the whole
pub one_of_whole : {A B : Type 0} (R : A → B → Type 0) (P : B → Type 0) (made : List A) (y : B) (left whole : List B) → P y → Made R made (y ∷ left) whole
    → Any P whole
one_of_whole R P made y left whole p m = subst (Any P) m.joined (any_here P m.front left y p)

-- a shape that is not a number is that of no whole one
pub no_whole : (shape : Shape) (t : Tree) → HasShape shape t → ((n : code.Number) → shape ≡ shapes.Number n → ⊥) → (z : ℤ) → IsWholeNumber t z → ⊥
no_whole shape t h k z e = grind arith

-- an item that is not a boolean, number or string represents a tree without a string
pub no_text : (form : Form) (item : Item) (t : Tree) → StandsFor form item t → ((b : Bool) → item ≡ Boolean b → ⊥) → ((n : code.Number) → item ≡ Number n → ⊥)
    → ((s : Bor (List ℕ)) → item ≡ String s → ⊥) → text_of t ≡ None
no_text form item t h k e f = grind arith
