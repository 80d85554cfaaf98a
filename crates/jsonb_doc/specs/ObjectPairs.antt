-- The iterator over the pairs of an object.
use Rattle.std.specs.Prelude.{◌≡◌, ℕ, List, Option, Some, None, Result, Ok, IfSome, IfOk}
use Rattle.std.specs.Borrow.{Bor}
use Rattle.jsonb_doc.specs.Tree.{Pairs, no_pairs, pair}
use Rattle.jsonb_doc.specs.Payload.{Form}
use Rattle.jsonb_doc.specs.Item.{StandsFor, IsNormal}
use Rattle.jsonb_doc.specs.declared.item.Item.{Item}
use Rattle.jsonb_doc.specs.declared.pair_iter.PairIter.{PairIter}
use Rattle.jsonb_doc.specs.declared.error.Error.{Error}
use Rattle.jsonb_doc.specs.AnyBytes.Iterators.{NextPair}
use Rattle.jsonb_doc.specs.Representation.Iterators.{HasPairsLeft}

-- Holds if the result is the first of the members, and the others remain.
abbrev pub TakesPair : Form → Pairs → Option (Result (Bor (List ℕ) × Item) Error) → PairIter → Type 0
TakesPair form no_pairs None after = HasPairsLeft form after no_pairs
TakesPair form (pair key t ps) (Some (Ok given)) after =
    (given.0.now ≡ key) × StandsFor form given.1 t × HasPairsLeft form after ps
TakesPair form _ _ after = ⊥

-- Holds if this is what a call of `next` does.
pub record GivesPair (before : PairIter) (r : Option (Result (Bor (List ℕ) × Item) Error))
    (after : PairIter) : Type 0 where
  pub any_bytes : NextPair before r after
  pub takes : (form : Form) (ps : Pairs) → HasPairsLeft form before ps → TakesPair form ps r after
  pub normal : IfSome r (λ x. IfOk x (λ given. IsNormal given.1))
