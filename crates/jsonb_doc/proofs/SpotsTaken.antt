-- What a caller knows of the spots that it was given.
use Rattle.jsonb_doc.proofs.Common.{◌≡◌, ℕ, List, [], ◌∷◌, Option, Some, None, Result, Ok, Err, Tree, Form, any, Decodes, SameOption, TakesSpot, Locates, HasSpotsLeft, Spot, SpotIter, Error, arith}
use Rattle.jsonb_doc.proofs.CanonicalLemmas.{in_any}

-- bytes of either form decode, as `root_spot` needs
pub decodes_any : (form : Form) (bytes : List ℕ) (top : Tree) → Decodes form bytes top → Decodes any bytes top
decodes_any form bytes top d = in_any form top bytes d

-- a spot that an iterator yielded
pub record TakenSpot (bytes : List ℕ) (ts : List Tree) (spot : Spot) (after : SpotIter) : Type 0 where
  pub first : Tree
  pub others : List Tree
  pub whole : ts ≡ first ∷ others
  pub marks : Locates bytes spot first
  pub left : HasSpotsLeft bytes after others

pub taken_spot : (bytes : List ℕ) (ts : List Tree) (r : Result Spot Error) (spot : Spot) (after : SpotIter) → r ≡ Ok spot → TakesSpot bytes ts (Some r) after
    → TakenSpot bytes ts spot after
taken_spot bytes ts r spot after h e = grind arith

-- an iterator of bytes that decode never fails
pub no_refusal : (bytes : List ℕ) (ts : List Tree) (r : Result Spot Error) (e : Error) (after : SpotIter) → r ≡ Err e → TakesSpot bytes ts (Some r) after → ⊥
no_refusal bytes ts r e after h k = grind arith

-- no tree is left at the end
pub no_spots_left : (bytes : List ℕ) (ts : List Tree) (after : SpotIter) → TakesSpot bytes ts None after → ts ≡ []
no_spots_left bytes ts after h = grind arith

-- a container has an iterator over its children
pub some_spots : (bytes : List ℕ) (it : SpotIter) (found : Option (List Tree)) → SameOption (HasSpotsLeft bytes) (Some it) found
    → (ts : List Tree) × (found ≡ Some ts) × HasSpotsLeft bytes it ts
some_spots bytes it found h = grind arith

-- an item without an iterator has no children
pub no_spots : (bytes : List ℕ) (found : Option (List Tree)) → SameOption (HasSpotsLeft bytes) None found → found ≡ None
no_spots bytes found h = grind arith
