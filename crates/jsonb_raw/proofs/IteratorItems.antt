-- What an iterator of a document has left, as a loop's invariant says it.
use Rattle.jsonb_raw.proofs.Common.{arith, ◌≡◌, ℕ, List, Option, Some, None, Result, Ok, Err, subst, [], ◌∷◌, ◌++◌, Bor, Error, Item, PairIter, ElementIter, Tree, array, object, Trees, no_trees, tree, Pairs, no_pairs, pair, trees_of, Form, StandsFor, GivesElement, HasElementsLeft, HasPairsLeft, IsElementsOf, TakesPair, GivesPair, IsPairsOf, IsOutOfMemoryOrTooLarge, Parts, no_parts, HoldsElements, front_empty, front_pushed, front_refused, HoldsFront}

-- the elements that are left have the property Q
pub record SomeElements (form : Form) (it : ElementIter) (Q : Trees → Type 0) : Type 0 where
  pub trees : Trees
  pub left : HasElementsLeft form it trees
  pub fact : Q trees

-- the pairs that are left have the property Q
pub record SomePairs (form : Form) (it : PairIter) (Q : Pairs → Type 0) : Type 0 where
  pub pairs : Pairs
  pub left : HasPairsLeft form it pairs
  pub fact : Q pairs

-- at first all is left
pub SomeElements-all : (form : Form) (ts : Trees) (found : Option ElementIter) (it it' : ElementIter) (Q : Trees → Type 0) → found ≡ Some it → it' ≡ it
    → IsElementsOf form (array ts) found → Q ts → SomeElements form it' Q
SomeElements-all form ts found it it' Q e f h q = record { trees = ts; left = rw f (rw e at h); fact = q }

pub SomePairs-all : (form : Form) (ps : Pairs) (found : Option PairIter) (it it' : PairIter) (Q : Pairs → Type 0) → found ≡ Some it → it' ≡ it
    → IsPairsOf form (object ps) found → Q ps → SomePairs form it' Q
SomePairs-all form ps found it it' Q e f h q = record { pairs = ps; left = rw f (rw e at h); fact = q }

module _ {G : Type 0} where
  -- the item that `next` gave stands for the first of what was left
  pub SomeElements-first : (form : Form) (it it' : ElementIter) (r : Result Item Error) (x : Item) (Q : Trees → Type 0) → r ≡ Ok x
      → GivesElement it (Some r) it' → SomeElements form it Q
      → ((first : Tree) (rest : Trees) → HasElementsLeft form it' rest → StandsFor form x first → Q (tree first rest) → G) → G
  SomeElements-first form it it' r x Q e n s go = grind arith

  -- `next` gives no error while elements are left
  pub SomeElements-error : (form : Form) (it it' : ElementIter) (r : Result Item Error) (e : Error) (Q : Trees → Type 0) → r ≡ Err e
      → GivesElement it (Some r) it' → SomeElements form it Q → G
  SomeElements-error form it it' r e Q same n s = grind arith

  -- the key and the item that `next` gave are the first pair of what was left
  pub SomePairs-first : (form : Form) (it it' : PairIter) (r : Result (Bor (List ℕ) × Item) Error) (x : Bor (List ℕ) × Item) (Q : Pairs → Type 0) → r ≡ Ok x
      → GivesPair it (Some r) it' → SomePairs form it Q
      → ((value : Tree) (rest : Pairs) → HasPairsLeft form it' rest → StandsFor form x.1 value → Q (pair x.0.now value rest) → G) → G
  SomePairs-first form it it' r x Q e n s go =
      (grind (arith, subst (λ (y : Result (Bor (List ℕ) × Item) Error). TakesPair form s.pairs (Some y) it') e (n.takes form s.pairs s.left), s.fact, go))

  no_pair_error : (form : Form) (it' : PairIter) (e : Error) (ps : Pairs) → TakesPair form ps (Some (Err e)) it' → G
  no_pair_error form it' e ps h = grind arith

  -- `next` gives no error while pairs are left
  pub SomePairs-error : (form : Form) (it it' : PairIter) (r : Result (Bor (List ℕ) × Item) Error) (e : Error) (Q : Pairs → Type 0) → r ≡ Err e
      → GivesPair it (Some r) it' → SomePairs form it Q → G
  SomePairs-error form it it' r e Q same n s =
      no_pair_error form it' e s.pairs
      (subst (λ (y : Result (Bor (List ℕ) × Item) Error). TakesPair form s.pairs (Some y) it') same (n.takes form s.pairs s.left))

-- if `next` gave none, none was left
pub SomeElements-none : (form : Form) (it it' : ElementIter) (Q : Trees → Type 0) → GivesElement it None it' → SomeElements form it Q → Q no_trees
SomeElements-none form it it' Q n s = grind arith

pub SomePairs-none : (form : Form) (it it' : PairIter) (Q : Pairs → Type 0) → GivesPair it None it' → SomePairs form it Q → Q no_pairs
SomePairs-none form it it' Q n s = grind (arith, n.takes form s.pairs s.left, s.fact)

-- ---- a loop that pushes elements into a builder

-- the trees that the builder holds, followed by what the elements that are left give, are the whole
abbrev pub HeldElements : Form → Parts → ElementIter → (Trees → List Tree) → List Tree → Type 0
HeldElements form parts it gives whole = SomeElements form it (λ ts. HoldsFront form parts (gives ts) whole)

-- at first nothing is held
pub elements_begun : (form : Form) (gives : Trees → List Tree) (parts : Parts) (ts : Trees) (found : Option ElementIter) (it it' : ElementIter)
    → found ≡ Some it → it' ≡ it → IsElementsOf form (array ts) found → parts ≡ no_parts → HeldElements form parts it' gives (gives ts)
elements_begun form gives parts ts found it it' is same left none = grind (arith, SomeElements-all, front_empty)

module _ (form : Form) (gives : Trees → List Tree) (whole : List Tree) (before : Parts) (it it' : ElementIter) (r : Result Item Error) (x : Item)
    (is : r ≡ Ok x) (step : GivesElement it (Some r) it') (h : HeldElements form before it gives whole) where
  -- with what the next element gives after the others, what the rest gives is left
  pub elements_pushed : (part : Tree → Tree) (after : Parts)
      → ((t : Tree) (ts : Trees) → StandsFor form x t → gives (tree t ts) ≡ part t ∷ gives ts)
      → ((t : Tree) (held : List Tree) → StandsFor form x t → HoldsElements form before held → HoldsElements form after (held ++ part t ∷ []))
      → HeldElements form after it' gives whole
  elements_pushed part after next pushed =
      SomeElements-first form it it' r x (λ ts. HoldsFront form before (gives ts) whole) is step h
      (λ t ts left stands front.
      let f = subst (λ (us : List Tree). HoldsFront form before us whole) (next t ts stands) front in
      record { trees = ts; left = left; fact = front_pushed form before (part t) (gives ts) whole f after (pushed t f.held stands f.holds) })

  -- if that push fails, the whole is
  pub elements_refused : (part : Tree → Tree) (e : Error)
      → ((t : Tree) (ts : Trees) → StandsFor form x t → gives (tree t ts) ≡ part t ∷ gives ts)
      → ((t : Tree) (held : List Tree) → StandsFor form x t → HoldsElements form before held
      → IsOutOfMemoryOrTooLarge form (array (trees_of (held ++ part t ∷ []))) e)
      → IsOutOfMemoryOrTooLarge form (array (trees_of whole)) e
  elements_refused part e next refused =
      SomeElements-first form it it' r x (λ ts. HoldsFront form before (gives ts) whole) is step h
      (λ t ts left stands front.
      let f = subst (λ (us : List Tree). HoldsFront form before us whole) (next t ts stands) front in
      front_refused form before (part t) (gives ts) whole f e (refused t f.held stands f.holds))

  -- an element that yields nothing is passed over
  pub elements_skipped : ((t : Tree) (ts : Trees) → StandsFor form x t → gives (tree t ts) ≡ gives ts) → HeldElements form before it' gives whole
  elements_skipped next =
      SomeElements-first form it it' r x (λ ts. HoldsFront form before (gives ts) whole) is step h
      (λ t ts left stands front.
      record { trees = ts; left = left; fact = subst (λ (us : List Tree). HoldsFront form before us whole) (next t ts stands) front })
