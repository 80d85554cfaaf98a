-- The iterators over the keys and over the values of an object.
use Rattle.std.specs.Prelude.{◌≡◌, ℕ, List, [], ◌∷◌, Option, Some, None, Result, Ok}
use Rattle.std.specs.Borrow.{Bor}
use Rattle.jsonb_doc.specs.declared.key_iter.KeyIter.{KeyIter}
use Rattle.jsonb_doc.specs.declared.error.Error.{Error}
use Rattle.jsonb_doc.specs.AnyBytes.Iterators.{NextKey}
use Rattle.jsonb_doc.specs.Representation.Iterators.{HasKeysLeft}

-- Holds if the result is the first of the keys, and the others remain.
abbrev pub TakesKey : List (List ℕ) → Option (Result (Bor (List ℕ)) Error) → KeyIter → Type 0
TakesKey [] None after = HasKeysLeft after []
TakesKey (key ∷ ks) (Some (Ok given)) after = (given.now ≡ key) × HasKeysLeft after ks
TakesKey _ _ after = ⊥

-- Holds if this is what a call of `next` does.
pub record GivesKey (before : KeyIter) (r : Option (Result (Bor (List ℕ)) Error)) (after : KeyIter) : Type 0 where
  pub any_bytes : NextKey before r after
  pub takes : (ks : List (List ℕ)) → HasKeysLeft before ks → TakesKey ks r after
