-- What the iterator over positions reads, and bounds of lengths, in any bytes.
use Rattle.std.specs.Prelude.{◌≡◌, ℕ, ◌-◌, ◌^◌, ◌<◌, ◌≤◌, [], ◌++◌, Option, Some, None, Result, Ok, Err, IfSome, IfNone, IfOk, IfErr}
use Rattle.jsonb_doc.specs.Format.{entry_word}
use Rattle.jsonb_doc.specs.AnyBytes.Parts.{words_left}
use Rattle.jsonb_doc.specs.Kinds.{kind_number}
use Rattle.jsonb_doc.specs.Answer.{IsDecodingError}
use Rattle.jsonb_doc.specs.declared.error.Error.{Error}
use Rattle.jsonb_doc.specs.declared.spot.Spot.{Spot}
use Rattle.jsonb_doc.specs.declared.spot_iter.SpotIter.{SpotIter}

-- The length of the content of a spot, in bytes.
abbrev pub spot_size : Spot → ℕ
spot_size spot = spot.end - spot.start

-- An upper bound of the number of spots that the iterator yields, on any bytes.
abbrev pub spots_bound : SpotIter → ℕ
spots_bound it = words_left it.words.now

-- An upper bound of the length of a child, on any bytes.
abbrev pub spots_room : SpotIter → ℕ
spots_room it = it.end - it.start

-- Holds if the first remaining word is that of the content at this spot, which is within the contents, and the others
-- remain.
pub record PassesSpot (before : SpotIter) (spot : Spot) (after : SpotIter) : Type 0 where
  pub word : before.words.now ≡ entry_word (kind_number spot.kind) (spot.end - spot.start) ++ after.words.now
  pub fits : spot.end - spot.start < 2 ^ 28
  pub front : spot.start ≡ before.start
  pub ordered : spot.start ≤ spot.end
  pub within : spot.end ≤ before.end
  pub next : after.start ≡ spot.end
  pub last : after.end ≡ before.end

-- Holds if the result is what is read, on any bytes. While words remain there is a result: the spot of the first, or an
-- error if it has none, after which nothing remains.
abbrev pub ReadsSpot : SpotIter → Option (Result Spot Error) → SpotIter → Type 0
ReadsSpot before None after = before.words.now ≡ []
ReadsSpot before (Some (Ok spot)) after = PassesSpot before spot after
ReadsSpot before (Some (Err e)) after =
    ((spot : Spot) (rest : SpotIter) → PassesSpot before spot rest → ⊥) × (after.words.now ≡ [])

-- Holds if this is what a call of `next` does, on any bytes: it yields a spot, an error or `None`, and after `None`
-- nothing more.
pub record NextSpot (before : SpotIter) (r : Option (Result Spot Error)) (after : SpotIter) : Type 0 where
  pub reads : ReadsSpot before r after
  pub errors : IfSome r (λ x. IfErr x IsDecodingError)
  pub ended : IfNone r (spots_bound after ≡ 0)
  pub size : IfSome r (λ x. IfOk x (λ spot. spot_size spot ≤ spots_room before))
  pub room : spots_room after ≤ spots_room before
