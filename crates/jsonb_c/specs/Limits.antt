-- Prepared JSON paths with a limit of items.
use Rattle.std.specs.Prelude.{◌≡◌, ◌⊎◌, ◌<◌, ◌≤◌, ◌-◌, ◌^◌, ℕ, List, Option, Some, None, MatchResult, nat_eq, if◌then◌else◌}
use Rattle.jsonb_doc.specs.Answer.{Outcome, IsDecodingError, IsOutOfMemory, ◌or◌}
use Rattle.jsonb_doc.specs.declared.error.Error.TheVariants.{OutOfMemory}
use Rattle.jsonb.specs.MostItems.{document_size, most_items}
use Rattle.jsonb.specs.PathTree.{Step}
use Rattle.jsonb_c.specs.Answers.{OfDocument, WritesResult}
use Rattle.jsonb_c.specs.declared.status.Status.{Status}
use Rattle.jsonb_c.specs.declared.status.Status.TheVariants.{LimitExceeded, NoPath, Refused}

-- The limit that a caller sets: the greatest number of 64 bits, which no bound exceeds, is none.
abbrev pub limit_of : ℕ → Option ℕ
limit_of n = if nat_eq n (2 ^ 64 - 1) then None else Some n

-- Holds if the bound of the path on the document is delivered.
abbrev pub BoundsPath : List Step → List ℕ → (Outcome ℕ → Type 0) → Type 0
BoundsPath path document = WritesResult (OfDocument document (λ form t said. MatchResult said
    (λ bound. bound ≡ most_items (document_size document t) path) IsOutOfMemory)) (IsDecodingError or OutOfMemory)

-- Holds if the call runs with the JSON path that the handle keeps, or fails if it keeps none. With a limit, it runs if
-- the bound of the path on the document is not above the limit, and otherwise fails.
abbrev pub WithPath : Option ℕ → Option (List Step) → List ℕ → (List Step → Type 0) → (Status → Type 0) → Type 0
WithPath limit None document Runs Fails = Fails NoPath
WithPath None (Some path) document Runs Fails = Runs path
WithPath (Some limit) (Some path) document Runs Fails = BoundsPath path document (λ said. MatchResult said
    (λ bound. ((bound ≤ limit) × Runs path) ⊎ ((limit < bound) × Fails LimitExceeded)) (λ e. Fails (Refused e)))
