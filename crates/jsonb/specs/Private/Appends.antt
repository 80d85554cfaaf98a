-- Lists that the values of a meaning are appended to.
use Rattle.std.specs.Prelude.{◌≡◌, ◌++◌, List, map, Result}
use Rattle.jsonb_doc.specs.Answer.{Outcome, Refines, IsOutOfMemory}
use Rattle.jsonb_doc.specs.declared.error.Error.{Error}

-- the members of the meaning's value are appended to what the list had
abbrev pub Appends : {A B : Type 0} → (A → B) → List A → List A → Result (Unit {0}) Error → Outcome (List B) → Type 0
Appends view old new answer meaning =
    Refines (λ _ more. map view new ≡ map view old ++ more) IsOutOfMemory answer meaning
