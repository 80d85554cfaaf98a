use Rattle.std.proofs.Common.{◌≡◌, ◌∙◌, ℤ, ℕ, Option, Some, None}
use Rattle.jsonb_doc.specs.Answer.{SameOption}
use Rattle.jsonb_doc.specs.Number.{Number}
use Rattle.jsonb_doc.specs.View.{number_parts}
use Rattle.jsonb_doc.specs.declared.number.Number as stored
use Rattle.jsonb_raw.specs.Scalars.{number_in}
use Rattle.jsonb_c.specs.Making.{ArePartsOf}
use Rattle.jsonb_c.proofs.document.decimal.as_parts.Goals as goal

-- the parts of the number that the document contains are those of the number of its tree
found_parts : (number : stored.Number) (parts : ℤ × ℕ × ℕ) (wanted : Option Number) → ArePartsOf parts (number_parts number)
    → SameOption (λ n m. number_parts n ≡ m) (Some number) wanted → SameOption ArePartsOf (Some parts) wanted
found_parts number parts (Some m) are is = rw (← is) are
found_parts number parts None are is = is

pub returns-in-Some-clause-parts : goal.returns-in-Some-clause-parts
returns-in-Some-clause-parts c = λ form t d. found_parts c.in-Some.number c.parts_of.result (number_in t)
    (c.parts_of.ensures.0 ∙ c.decimal_of.ensures.whole, c.parts_of.ensures.1 ∙ c.decimal_of.ensures.scale)
    (rw (← c.in-Some.is) (c.in_ok-number.ensures.value form t (rw c.new.ensures d)))
