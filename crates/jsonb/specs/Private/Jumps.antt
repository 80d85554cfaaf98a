-- A condition as a list of branches: `&&` and `||` determine the jumps between them, and are not in the list.
use Rattle.std.specs.Prelude.{ℕ, nat_le, true, false, List, [], ◌∷◌, length, Option, Some, None, option_map, Ok, if◌then◌else◌}
use Rattle.jsonb_doc.specs.Answer.{Outcome, and_then}
use Rattle.jsonb_doc.specs.Tree.{Tree}
use Rattle.jsonb.specs.PathTree.{and_op, or_op, Expression, binary}
use Rattle.jsonb.specs.Compare.{Truth}
use Rattle.jsonb.specs.Meaning.{truth}
use Rattle.jsonb.specs.declared.selector.document.Mode.{Mode}
use Rattle.jsonb.specs.declared.selector.plan.Jump.{Jump}

-- an expression that is not `&&` or `||`, and the number of branches that are left when the condition continues
-- after its truth
pub record Branch : Type 0 where
  pub condition : Expression
  pub on_true : ℕ
  pub on_false : ℕ

-- the branches of an expression before others
abbrev pub branches_of : Expression → ℕ → ℕ → List Branch → List Branch
branches_of (binary and_op l r) t f others =
    branches_of l (length (branches_of r t f others)) f (branches_of r t f others)
branches_of (binary or_op l r) t f others =
    branches_of l t (length (branches_of r t f others)) (branches_of r t f others)
branches_of e t f others = record { condition = e; on_true = t; on_false = f } ∷ others

-- the branches of a whole condition
abbrev pub branches_of_whole : Expression → List Branch
branches_of_whole e = branches_of e 0 0 []

-- ---- evaluating them. If one is unknown, the condition is, and no jump matters.

-- the jump after a result
abbrev pub taken : ℕ → ℕ → Truth → Option Jump
taken t f (Some true) = Some (record { left = t; truth = true })
taken t f (Some false) = Some (record { left = f; truth = false })
taken t f None = None

-- The jump after a result that a jump passes over.
abbrev pub passed : Jump → Truth → Option Jump
passed jump (Some b) = Some jump
passed jump None = None

-- the jump after a branch, the first of `left`
abbrev pub next_jump : ℕ → ℕ → ℕ → Option Jump → Truth → Option Jump
next_jump t f left (Some jump) b = if nat_le left jump.left then taken t f b else passed jump b
next_jump t f left None b = None

-- the truth if no branch is left
abbrev pub jump_truth : Option Jump → Truth
jump_truth state = option_map (λ jump. jump.truth) state

-- Each branch is evaluated, also if a jump passes over it: it may be unknown, or an error.
abbrev pub evaluated : Mode → Tree → Tree → List Branch → Option Jump → Outcome Truth
evaluated mode top item [] state = Ok (jump_truth state)
evaluated mode top item (branch ∷ rest) state = and_then (truth mode branch.condition top item) (λ b.
    evaluated mode top item rest (next_jump branch.on_true branch.on_false (length (branch ∷ rest)) state b))
