-- A path that was parsed is kept.
use Rattle.std.proofs.Common.{◌≡◌, ◌∙◌, refl, ap, ℕ, Option, Some, None, Result, Ok, Err}
use Rattle.std.specs.Prelude.{IfOk, IsSomeAnd, MatchResult, ok_or}
use Rattle.std.specs.declared.alloc.Global.{Global}
use Rattle.std.specs.declared.boxed.Box.{Box}
use Rattle.jsonb_c.specs.Answers.{With}
use Rattle.jsonb_c.specs.Representation.Prepared.{json_limit}
use Rattle.jsonb_c.specs.Private.Boxes.{IsTextRefusal, Keeps}
use Rattle.jsonb_c.proofs.Paths.{by_text, runs}
use Rattle.jsonb_c.specs.Status.{code}
use Rattle.jsonb_c.specs.declared.status.Status.TheVariants.{Answered}
use Rattle.jsonb_c.specs.declared.status.Status.{Status}
use Rattle.jsonb_c.specs.declared.prepared.path.PreparedPath.{PreparedPath}

module _ {P : Type 0} (refusal : Status) (steps_of : Option PreparedPath → Option P) (kept : Option PreparedPath) (status : ℕ) where
  -- the path of the text is kept, or nothing is
  abbrev Prepares : Option P → Type 0
  Prepares read = With (ok_or read refusal) (λ steps. (status ≡ code Answered) × (steps_of kept ≡ Some steps))
      (λ cause. (status ≡ code cause) × (kept ≡ None))

  kept_path : (read : Option P) (x : PreparedPath) (o : Option P) → steps_of (Some x) ≡ o → IsSomeAnd o (λ steps. read ≡ Some steps)
      → status ≡ code Answered → kept ≡ Some x → Prepares read
  kept_path read x None is some done same = absurd some
  kept_path read x (Some steps) is some done same = runs refusal read steps _ _ some (done, ap steps_of same ∙ is)

  pub prepares : (read : Option P) (parsed : Result (Box PreparedPath Global) Status)
      → MatchResult parsed (λ made. IsSomeAnd (steps_of (Some made.value)) (λ steps. read ≡ Some steps)) (IsTextRefusal refusal read)
      → Keeps parsed kept status → Prepares read
  prepares read (Ok made) is keeps = kept_path read made.value (steps_of (Some made.value)) refl is keeps.0 keeps.1
  prepares read (Err cause) is keeps = by_text refusal cause read _ _ is keeps

-- what is kept has no limit, if what was parsed has none
pub unlimited : (parsed : Result (Box PreparedPath Global) Status) (kept : Option PreparedPath) (status : ℕ)
    → IfOk parsed (λ made. json_limit (Some made.value) ≡ None) → Keeps parsed kept status → json_limit kept ≡ None
unlimited (Ok made) kept status none keeps = ap json_limit keeps.1 ∙ none
unlimited (Err cause) kept status none keeps = ap json_limit keeps.1
