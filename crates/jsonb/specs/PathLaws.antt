-- Paths that differ at most in the variant of an integer, and paths that mean the same.
use Rattle.std.specs.Prelude.{◌≡◌, pos, List, IsTrue}
use Rattle.std.specs.List.{AllZip}
use Rattle.jsonb_doc.specs.Answer.{Refines}
use Rattle.jsonb_doc.specs.Equal.{is_equal}
use Rattle.jsonb_doc.specs.Tree.{Tree}
use Rattle.jsonb_doc.specs.declared.number.Number.TheVariants.{Int64, UInt64}
use Rattle.jsonb.specs.Meaning.{meaning, predicate}
use Rattle.jsonb.specs.PathEquality.{SameStepsBut}
use Rattle.jsonb.specs.PathTree.{Literal, number, Step, steps_of}
use Rattle.jsonb.specs.declared.selector.document.Mode.{Mode}

-- The literal, as an unsigned number if it is a non-negative integer.
abbrev pub settled_literal : Literal → Literal
settled_literal (number (Int64 (pos n))) = number (UInt64 n)
settled_literal l = l

-- Holds if the paths differ at most in the variant of an integer.
abbrev pub SameButVariants : List Step → List Step → Type 0
SameButVariants p q = SameStepsBut (λ l m. settled_literal l ≡ settled_literal m) (steps_of p) (steps_of q)

-- Holds if, on every tree, the paths have the same error or lists that are equal by value member by member, and the
-- same result as predicates.
abbrev pub MeanTheSame : List Step → List Step → Type 0
MeanTheSame p q = (mode : Mode) (top : Tree)
    → Refines (AllZip (λ t u. IsTrue (is_equal t u))) (λ e. ⊥) (meaning mode p top) (meaning mode q top)
    × (predicate mode p top ≡ predicate mode q top)
