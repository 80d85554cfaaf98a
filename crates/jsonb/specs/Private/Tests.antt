-- The tests that a condition is compiled to.
use Rattle.std.specs.Prelude.{◌≡◌, ◌==◌, ◌&&◌, ◌+◌, ℕ, Bool, true, false, not, List, [], ◌∷◌, length, flat_map, reverse, sum_by, Option, Some, None, is_some, Result, Ok}
use Rattle.std.specs.List.{AllZip}
use Rattle.jsonb_doc.specs.Answer.{and_then, Refines, IsOutOfMemory}
use Rattle.jsonb_doc.specs.Tree.{Tree}
use Rattle.jsonb_doc.specs.declared.error.Error.{Error}
use Rattle.jsonb.specs.PathTree.{Expression, Step, steps_of}
use Rattle.jsonb.specs.PathViews.{steps_view, expression_view}
use Rattle.jsonb.specs.Compare.{Truth, compare}
use Rattle.jsonb.specs.Values.{values_of_item}
use Rattle.jsonb.specs.Meaning.{steps_meaning, truth, first_item}
use Rattle.jsonb.specs.Private.Compared.{IsMemberCompared, AreChildrenCompared}
use Rattle.jsonb.specs.Private.Jumps.{Branch, branches_of, branches_of_whole}
use Rattle.jsonb.specs.Private.Members.{are_members}
use Rattle.jsonb.specs.Private.Parts.{parts}
use Rattle.jsonb.specs.declared.selector.compile.Target.{Target}
use Rattle.jsonb.specs.declared.selector.compile.Target.TheVariants.{Next, At}
use Rattle.jsonb.specs.declared.selector.compile.Waiting.{Waiting}
use Rattle.jsonb.specs.declared.selector.document.Mode.{Mode}
use Rattle.jsonb.specs.declared.selector.document.Mode.TheVariants.{Lax, Strict}
use Rattle.jsonb.specs.declared.selector.plan.Condition.{Condition}
use Rattle.jsonb.specs.declared.selector.plan.Condition.TheVariants as condition
use Rattle.jsonb.specs.declared.selector.plan.Jump.{Jump}
use Rattle.jsonb.specs.declared.selector.plan.MemberFound.{MemberFound}
use Rattle.jsonb.specs.declared.selector.plan.MembersCompared.{MembersCompared}
use Rattle.jsonb.specs.declared.selector.plan.Question.{Question}
use Rattle.jsonb.specs.declared.selector.plan.Question.TheVariants as question
use Rattle.jsonb.specs.declared.selector.plan.Test.{Test}
use Rattle.jsonb.specs.declared.selector.pair.Join.{Join}
use Rattle.jsonb.specs.declared.selector.pair.Join.TheVariants.{And, Or}
use Rattle.jsonb.specs.declared.selector.pair.Pair.{Pair}

-- the expression compares the two members of the item that these steps name
pub record AreMembersCompared (c : MembersCompared) (e : Expression) : Type 0 where
  pub left : are_members (steps_view c.left.now) ≡ true
  pub right : are_members (steps_view c.right.now) ≡ true
  pub compares : (mode : Mode) (top t : Tree) → truth mode e top t
      ≡ and_then (steps_meaning mode (steps_of (steps_view c.left.now)) top (t ∷ []))
      (λ ls. and_then (steps_meaning mode (steps_of (steps_view c.right.now)) top (t ∷ []))
      (λ rs. Ok (compare c.op (flat_map values_of_item ls) (flat_map values_of_item rs))))

-- the expression is true if and only if the item has the member that these steps name
pub record IsMemberFound (found : MemberFound) (e : Expression) : Type 0 where
  pub members : are_members (steps_view found.names.now) ≡ true
  pub finds : (mode : Mode) (top t : Tree) → truth mode e top t
      ≡ and_then (steps_meaning mode (steps_of (steps_view found.names.now)) top (t ∷ []))
      (λ ts. Ok (Some (is_some (first_item ts))))

-- the question is of members of the item, or unknown, and has the truth of the expression
abbrev pub IsQuestionOf : Question → Expression → Type 0
IsQuestionOf (question.Compared c) e = IsMemberCompared c e
IsQuestionOf (question.ChildrenCompared c) e = AreChildrenCompared c e
IsQuestionOf (question.MembersCompared c) e = AreMembersCompared c e
IsQuestionOf (question.MemberFound found) e = IsMemberFound found e
IsQuestionOf question.Unknown e = (mode : Mode) (top t : Tree) → truth mode e top t ≡ Ok None

-- The steps after `@` of the member that a question is of, or none if it is not of one alone.
abbrev pub asked_names : Question → List Step
asked_names (question.Compared c) = steps_view c.names.now
asked_names (question.MemberFound found) = steps_view found.names.now
asked_names _ = []

-- the result is the truth of the question
abbrev pub IsTruthOf : Mode → Tree → Tree → Question → Result Truth Error → Type 0
IsTruthOf mode top t question answer =
    (e : Expression) → IsQuestionOf question e → Refines (λ b c. b ≡ c) IsOutOfMemory answer (truth mode e top t)

-- the test is that of the branch
pub record IsTestOf (test : Test) (branch : Branch) : Type 0 where
  pub on_true : test.on_true ≡ branch.on_true
  pub on_false : test.on_false ≡ branch.on_false
  pub question : IsQuestionOf test.question branch.condition

abbrev pub AreBranches : List Test → List Branch → Type 0
AreBranches tests branches = AllZip IsTestOf tests branches

abbrev pub tests_in : Condition → List Test
tests_in (condition.One test) = test ∷ []
tests_in (condition.Many tests) = tests.items

-- the condition is compiled to these tests, the last one first
abbrev pub AreTestsOf : List Test → Expression → Type 0
AreTestsOf tests e = AreBranches (reverse tests) (branches_of_whole e)

-- no test that is left changes what a filter selects: in lax mode, in which no test fails
abbrev pub is_settled : Mode → Option Jump → Bool
is_settled Strict state = false
is_settled Lax None = true
is_settled Lax (Some jump) = (jump.left == 0) && not jump.truth

-- ---- while a condition is compiled

abbrev pub jump_to : Target → ℕ → ℕ
jump_to Next left = left
jump_to (At at) left = at

-- the jumps of the left part of a pair, after true and after false
abbrev pub left_true : Join → ℕ → Target
left_true And t = Next
left_true Or t = At t

abbrev pub left_false : Join → ℕ → Target
left_false And f = At f
left_false Or f = Next

abbrev pub left_of : Pair → ℕ → ℕ → Waiting
left_of pair t f = record { e = pair.left; on_true = left_true pair.join t; on_false = left_false pair.join f }

abbrev pub right_of : Pair → ℕ → ℕ → Waiting
right_of pair t f = record { e = pair.right; on_true = At t; on_false = At f }

-- The branches of parts, the last part first, before the branches that follow them.
abbrev pub pending : List Waiting → List Branch → List Branch
pending [] others = others
pending (part ∷ parts) others = pending parts (branches_of (expression_view part.e.now)
    (jump_to part.on_true (length others)) (jump_to part.on_false (length others)) others)

-- the parts that are left, the last part first; if no part comes next, none are
abbrev pub waiting_left : Option Waiting → List Waiting → List Waiting
waiting_left (Some part) waiting = part ∷ reverse waiting
waiting_left None waiting = []

abbrev pub parts_waiting : List Waiting → ℕ
parts_waiting waiting = sum_by (λ (part : Waiting). parts part.e.now) waiting

abbrev pub parts_to_compile : Option Waiting → List Waiting → ℕ
parts_to_compile (Some part) waiting = parts part.e.now + parts_waiting waiting
parts_to_compile None waiting = 0
