-- Loops whose turns add lists: what is done so far, before what the rest gives, is the whole.
use Rattle.jsonb.proofs.Common.{◌≡◌, List, [], ◌∷◌, ◌++◌, Some, None, Result, Ok, Err, IsOkAnd, refl, sym, ap, ◌∙◌, append_assoc, append-nil, ◌⊎◌, ℕ, ◌+◌, ◌<◌, ◌≤◌, length, drop, get_or, add-one, flat_map, drop-cons, drop_of_length-le, Outcome, and_then, try_flat_map, Refines, IsOutOfMemory, Error, Spot, SpotIter, Tree, GivesSpot, Locates, HasSpotsLeft, taken_spot, no_refusal, no_spots_left, AllZip, arith}
use Rattle.jsonb_doc.specs.declared.layout.EntryKind.TheVariants as kind

-- a list before a list, or its error
abbrev pub behind : {C : Type 0} → List C → Outcome (List C) → Outcome (List C)
behind front o = and_then o (λ back. Ok (front ++ back))

pub record Progress {B C : Type 0} (Left : List B → Type 0) (Done : List C → Type 0) (f : B → Outcome (List C)) (outcome : Outcome (List C)) : Type 0 where
  pub rest : List B
  pub given : List C
  pub left : Left rest
  pub done : Done given
  pub is : outcome ≡ behind given (try_flat_map f rest)

-- what is left is a first one, of which P holds, and others
pub record First {B : Type 0} (Others : List B → Type 0) (P : B → Type 0) (rest : List B) : Type 0 where
  pub first : B
  pub others : List B
  pub whole : rest ≡ first ∷ others
  pub holds : P first
  pub left : Others others

-- parts that are never refused
pub joined_total : {B C : Type 0} (g : B → List C) (ts : List B) → try_flat_map (λ t. Ok (g t)) ts ≡ Ok (flat_map g ts)
joined_total g [] = refl
joined_total g (t ∷ ts) = ap (λ o. and_then o (λ back. Ok (g t ++ back))) (joined_total g ts)

pub at_start : {B C : Type 0} (f : B → Outcome (List C)) (Left : List B → Type 0) (Done : List C → Type 0) (ts : List B) → Left ts → Done []
    → Progress Left Done f (try_flat_map f ts)
at_start f Left Done ts l d = grind arith

module _ {B C : Type 0} {f : B → Outcome (List C)} {Left : List B → Type 0} {Done : List C → Type 0} {outcome : Outcome (List C)} where
  -- one turn
  pub one_more : {Left' : List B → Type 0} {Done' : List C → Type 0} {P : B → Type 0} → Progress Left Done f outcome
      → ((rest : List B) → Left rest → First Left' P rest) → ((t : B) (before : List C) → P t → Done before → IsOkAnd (f t) (λ us. Done' (before ++ us)))
      → Progress Left' Done' f outcome
  one_more {Left' = Left'} {Done' = Done'} p first one = let k = first p.rest p.left in added p.given k.first k.others (f k.first) refl k.left
      (one k.first p.given k.holds p.done) (p.is ∙ ap (λ l. behind p.given (try_flat_map f l)) k.whole)
    where
      added : (given : List C) (t : B) (rest : List B) (o : Outcome (List C)) → f t ≡ o → Left' rest → IsOkAnd o (λ us. Done' (given ++ us))
          → outcome ≡ behind given (try_flat_map f (t ∷ rest)) → Progress Left' Done' f outcome
      added given t rest o e l h is = grind (arith, append_assoc)

  -- an error
  pub refused_in : {Left' : List B → Type 0} {P : B → Type 0} {e : Error} → Progress Left Done f outcome → ((rest : List B) → Left rest → First Left' P rest)
      → ((t : B) (before : List C) → P t → Done before → IsOutOfMemory e ⊎ (f t ≡ Err e)) → IsOutOfMemory e ⊎ (outcome ≡ Err e)
  refused_in p first one = grind arith

  -- the end
  pub at_end : Progress Left Done f outcome → ((rest : List B) → Left rest → rest ≡ []) → IsOkAnd outcome Done
  at_end p none = grind (arith, append-nil)

-- parts that never fail, after what there was
pub total_start : {B C : Type 0} (g : B → List C) (Left : List B → Type 0) (Done : List C → Type 0) (ts : List B) (before : List C) → Left ts → Done before →
    Progress Left Done (λ t. Ok (g t)) (Ok (before ++ flat_map g ts))
total_start g Left Done ts before l d = record { rest = ts; given = before; left = l; done = d; is = sym (ap (behind before) (joined_total g ts)) }

-- parts that are one item each
pub joined_singles : {B : Type 0} (ts : List B) → try_flat_map (λ t. Ok (t ∷ [])) ts ≡ Ok ts
joined_singles [] = refl
joined_singles (t ∷ ts) = ap (λ o. and_then o (λ back. Ok (t ∷ back))) (joined_singles ts)

pub singles_start : {B : Type 0} (Left Done : List B → Type 0) (ts before : List B) → Left ts → Done before
    → Progress Left Done (λ t. Ok (t ∷ [])) (Ok (before ++ ts))
singles_start Left Done ts before l d = record { rest = ts; given = before; left = l; done = d; is = sym (ap (behind before) (joined_singles ts)) }

-- ---- over a list

-- what stands for no place of a list
abbrev pub no_spot : Spot
no_spot = record { kind = kind.Null; start = 0; end = 0 }

module _ {A B : Type 0} (R : A → B → Type 0) (xs : List A) where
  pub list_first : (i : ℕ) (d : A) → i < length xs → (rest : List B) → AllZip R (drop i xs) rest → First (AllZip R (drop (i + 1) xs)) (R (get_or xs i d)) rest
  list_first i d h rest a = grind (arith, drop-cons, add-one)

  pub list_end : (i : ℕ) → length xs ≤ i → (rest : List B) → AllZip R (drop i xs) rest → rest ≡ []
  list_end i h rest a = grind (arith, drop_of_length-le)

-- ---- over places of the bytes, each of whose lists goes after those that were found before

module _ (f : Tree → Outcome (List Tree)) (bytes : List ℕ) (spots : List Spot) (ts : List Tree) where
  -- that many places are passed, and this was found
  abbrev pub SpotsPassed : ℕ → List Spot → Type 0
  SpotsPassed i found = Progress (AllZip (Locates bytes) (drop i spots)) (AllZip (Locates bytes) found) f (try_flat_map f ts)

  pub none_passed : (found : List Spot) → found ≡ [] → AllZip (Locates bytes) spots ts → SpotsPassed 0 found
  none_passed found none a = grind (arith, at_start)

  module _ (i : ℕ) (found found' : List Spot) (passed : SpotsPassed i found) where
    pub spot_passed : i < length spots
        → ((t : Tree) (before : List Tree) → Locates bytes (get_or spots i no_spot) t → AllZip (Locates bytes) found before
        → IsOkAnd (f t) (λ us. AllZip (Locates bytes) found' (before ++ us)))
        → SpotsPassed (i + 1) found'
    spot_passed less one = one_more passed (list_first (Locates bytes) spots i no_spot less) one

    pub spot_not_passed : {G : Type 0} (Q : G → List Tree → Type 0) (e : Error) → i < length spots
        → ((t : Tree) (before : List Tree) → Locates bytes (get_or spots i no_spot) t → AllZip (Locates bytes) found before
        → Refines (λ (_ : Unit {0}) us. AllZip (Locates bytes) found' (before ++ us)) IsOutOfMemory (Err e) (f t))
        → Refines Q IsOutOfMemory (Err e) (try_flat_map f ts)
    spot_not_passed Q e less one =
        record { ok = tt; err = refused_in passed (list_first (Locates bytes) spots i no_spot less) (λ t before m a. (one t before m a).err) }

  pub all_passed : (i : ℕ) (found : List Spot) → SpotsPassed i found → length spots ≤ i → IsOkAnd (try_flat_map f ts) (AllZip (Locates bytes) found)
  all_passed i found passed end = at_end passed (list_end (Locates bytes) spots i end)

-- ---- over the children of an item

pub spot_first : {it it' : SpotIter} {r : Result Spot Error} {spot : Spot} (bytes : List ℕ) → r ≡ Ok spot → GivesSpot it (Some r) it' → (rest : List Tree)
    → HasSpotsLeft bytes it rest → First (HasSpotsLeft bytes it') (Locates bytes spot) rest
spot_first bytes is g rest l =
    let k = taken_spot bytes rest _ _ _ is (g.takes bytes rest l) in
    record { first = k.first; others = k.others; whole = k.whole; holds = k.marks; left = k.left }

pub spot_end : {it it' : SpotIter} (bytes : List ℕ) → GivesSpot it None it' → (rest : List Tree) → HasSpotsLeft bytes it rest → rest ≡ []
spot_end bytes g rest l = no_spots_left bytes rest _ (g.takes bytes rest l)

-- an iterator of bytes that decode never fails
pub spot_refused : {G C : Type 0} {f : Tree → Outcome (List C)} {Done : List C → Type 0} {outcome : Outcome (List C)} {it it' : SpotIter}
    {r : Result Spot Error} {e : Error} (bytes : List ℕ) → r ≡ Err e → GivesSpot it (Some r) it' → Progress (HasSpotsLeft bytes it) Done f outcome → G
spot_refused bytes is g p = absurd (no_refusal bytes p.rest _ _ _ is (g.takes bytes p.rest p.left))
