-- Lists that differ in repeats alone, as far as an expression can tell.
use Rattle.std.specs.Prelude.{◌≡◌, ℕ, Bool, List, find, Ok, Err}
use Rattle.std.specs.List.{AllZip}
use Rattle.jsonb_doc.specs.Answer.{Outcome}
use Rattle.jsonb_doc.specs.Representation.Positions.{Locates}
use Rattle.jsonb_doc.specs.Tree.{Tree}
use Rattle.jsonb_doc.specs.declared.spot.Spot.{Spot}
use Rattle.jsonb.specs.declared.selector.document.Repeats.{Repeats}
use Rattle.jsonb.specs.declared.selector.document.Repeats.TheVariants.{AreKept, AreDropped}

-- each test finds the same first item in both lists
pub record AreAlike {A : Type 0} (xs ys : List A) : Type 0 where
  pub finds : (test : A → Bool) → find test xs ≡ find test ys

-- the lists are equal, or alike if repeats are dropped
abbrev pub AreSame : {A : Type 0} → Repeats → List A → List A → Type 0
AreSame AreKept xs ys = xs ≡ ys
AreSame AreDropped xs ys = AreAlike xs ys

-- the positions are those of the trees, or of trees that are alike if repeats are dropped
abbrev pub HasSame : Repeats → List ℕ → List Spot → List Tree → Type 0
HasSame repeats bytes spots ts = (us : List Tree) × AllZip (Locates bytes) spots us × AreSame repeats us ts

-- two outcomes are lists that are alike, or one error
abbrev pub AlikeOutcomes : {A : Type 0} → Outcome (List A) → Outcome (List A) → Type 0
AlikeOutcomes (Ok xs) (Ok ys) = AreAlike xs ys
AlikeOutcomes (Err e) (Err d) = e ≡ d
AlikeOutcomes _ _ = ⊥

-- two outcomes are the same lists, or one error
abbrev pub SameOutcomes : {A : Type 0} → Repeats → Outcome (List A) → Outcome (List A) → Type 0
SameOutcomes AreKept a b = a ≡ b
SameOutcomes AreDropped a b = AlikeOutcomes a b
