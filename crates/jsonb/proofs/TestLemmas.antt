-- Conditions that are compiled to tests.
use Rattle.jsonb.proofs.Common.{◌≡◌, ℕ, ◌+◌, ◌≤◌, List, [], ◌∷◌, ◌++◌, length, take, get_or, map, flat_map, option_to_list, true, false, Option, Some, None, is_some, Ok, IsOkAnd, refl, sym, ap, ◌∙◌, arith, length-append, reverse, not, ◌==◌, ◌&&◌, MatchOption, ⊤, AllZip, eqb-true, lt-leb, length-reverse, length-take-le, take_more, and_then, Tree, Spot, Truth, compare, steps_meaning, truth, filtered, first_item, BinaryOp, and_op, or_op, current, Steps, step, Expression, paths, binary, steps_of, steps_view, expression_view, is_comparison, Branch, branches_of, branches_of_whole, next_jump, jump_truth, evaluated, option_spots, taken_step, is_joined, IsPairOf, AreMembersCompared, IsQuestionOf, IsTestOf, AreBranches, AreTestsOf, is_settled, jump_to, right_of, pending, waiting_left, values_of_item, AreRefused, Mode, Lax, Strict, Jump, MembersCompared, Question, Test, Pair}
use Rattle.jsonb.specs.declared.selector.compile.Waiting.{Waiting}
use Rattle.jsonb.specs.Private.Tests.{left_of}
use Rattle.jsonb.specs.declared.selector.plan.Question.TheVariants as question
pub use Rattle.jsonb_doc.proofs.Basics.{empty_of as none_waiting, innermost as last_first}
use Rattle.jsonb.proofs.ComparedLemmas.{Any, children_total, comparison_total, members_total}
use Rattle.jsonb.proofs.RefinesLemmas.{with_ok}
use Rattle.jsonb.proofs.JumpLemmas.{evaluated-taken, at_end}
use Rattle.jsonb.proofs.KeptLemmas.{comparison_is}
use Rattle.jsonb.proofs.MemberLemmas.{both_true}
use Rattle.jsonb.proofs.SelectedParts.{related_length}
use Rattle.jsonb.proofs.StepLemmas.{refused_steps}

-- ---- compiling

-- an expression that is not `&&` or `||` is one branch
pub one_branch : (e : Expression) (t f : ℕ) (others : List Branch) → is_joined e ≡ false
    → branches_of e t f others ≡ record { condition = e; on_true = t; on_false = f } ∷ others
one_branch e t f others h = grind arith

-- the parts of a pair
pair_parts : (waiting : List Waiting) (part : Waiting) (p : Pair) (t f : ℕ) (others : List Branch) → IsPairOf part.e.now p
    → t ≡ jump_to part.on_true (length others) → f ≡ jump_to part.on_false (length others)
    → pending (left_of p t f ∷ reverse waiting) (branches_of (expression_view p.right.now) t f others) ≡ pending (part ∷ reverse waiting) others
pair_parts waiting part p t f others pair is_t is_f = grind arith

-- a pair whose left side waits
pub left_waits : (waiting : List Waiting) (part : Waiting) (p : Pair) (t f : ℕ) (others : List Branch) → IsPairOf part.e.now p
    → t ≡ jump_to part.on_true (length others) → f ≡ jump_to part.on_false (length others)
    → pending (right_of p t f ∷ reverse (waiting ++ left_of p t f ∷ [])) others ≡ pending (part ∷ reverse waiting) others
left_waits waiting part p t f others pair is_t is_f = grind (arith, last_first, pair_parts)

-- the last of the parts that wait
pub popped : (old new : List Waiting) (found : Option Waiting) → old ≡ new ++ option_to_list found → (found ≡ None → old ≡ [])
    → waiting_left found new ≡ reverse old
popped old new found is empty = grind (arith, last_first)

-- as many branches as tests
pub as_many : (tests : List Test) (done : List Branch) → AreBranches (reverse tests) done → length tests ≡ length done
as_many tests done a = sym (length-reverse tests) ∙ related_length IsTestOf (reverse tests) done a

-- one more test before the others
pub one_in_front : (tests : List Test) (test : Test) (e : Expression) (done : List Branch) → AreBranches (reverse tests) done
    → IsQuestionOf test.question e
    → AreBranches (reverse (tests ++ test ∷ [])) (record { condition = e; on_true = test.on_true; on_false = test.on_false } ∷ done)
one_in_front tests test e done a q = grind (arith, last_first)

-- what holds if an expression is not a question of members
pub if_none : {A : Type 0} (N : Type 0) (P : A → Type 0) (o : Option A) → N → MatchOption o ⊤ P → MatchOption o N P
if_none N P o n h = grind arith

-- ---- evaluating one test after the other

-- the branch of the next test, and the branches that follow it
pub record NextTest (before : List Test) (n : ℕ) (x : Test) (rest : List Branch) (state : Option Jump) (mode : Mode) (top t : Tree) : Type 0 where
  pub condition : Expression
  pub behind : List Branch
  pub question : IsQuestionOf x.question condition
  pub left : AreBranches (reverse before) behind
  pub is : evaluated mode top t rest state
      ≡ and_then (truth mode condition top t) (λ b. evaluated mode top t behind (next_jump x.on_true x.on_false n state b))

next_branch : (tests before : List Test) (x : Test) (rest : List Branch) (state : Option Jump) (mode : Mode) (top t : Tree)
    → tests ≡ before ++ x ∷ [] → AreBranches (reverse tests) rest → NextTest before (length tests) x rest state mode top t
next_branch tests before x [] state mode top t is related =
    absurd (rw (ap reverse is ∙ last_first before x) at related)
next_branch tests before x (b ∷ bs) state mode top t is related =
    let each : AreBranches (x ∷ reverse before) (b ∷ bs) = rw (ap reverse is ∙ last_first before x) at related in
    let many : length (b ∷ bs) ≡ length tests = sym (related_length IsTestOf (reverse tests) (b ∷ bs) related) ∙ length-reverse tests in
    record {
      condition = b.condition;
      behind = bs;
      question = each.0.question;
      left = each.1;
      is = λ k. and_then (truth mode b.condition top t)
          (λ v. evaluated mode top t bs (next_jump (sym each.0.on_true k) (sym each.0.on_false k) (many k) state v));
    }

pub next_test : (tests : List Test) (n i : ℕ) (x : Test) (rest : List Branch) (state : Option Jump) (mode : Mode) (top t : Tree)
    → n ≤ length tests → n ≡ i + 1 → x ≡ get_or tests i x → AreBranches (reverse (take n tests)) rest
    → NextTest (take i tests) n x rest state mode top t
next_test tests n i x rest state mode top t within next is related =
    rw (length-take-le n tests within) at (next_branch (take n tests) (take i tests) x rest state mode top t
    (ap (λ k. take k tests) next ∙ take_more tests i x (omega (arith, within, next)) ∙ ap (λ y. take i tests ++ y ∷ []) (sym is)) related)

-- after its truth
pub test_done : {before : List Test} {m : ℕ} {x : Test} {rest : List Branch} {state : Option Jump} {mode : Mode} {top t : Tree}
    (n : NextTest before m x rest state mode top t) (v : Truth) (after : Option Jump) → truth mode n.condition top t ≡ Ok v
    → after ≡ next_jump x.on_true x.on_false m state v → evaluated mode top t rest state ≡ evaluated mode top t n.behind after
test_done n v after known next = grind arith

-- all tests, from a jump that passes over none
from_first : (mode : Mode) (tests : List Test) (e : Expression) (top t : Tree) (state : Option Jump) (jump : Jump) → state ≡ Some jump
    → jump.left ≡ length tests → AreTestsOf tests e → truth mode e top t ≡ evaluated mode top t (branches_of_whole e) state
from_first mode tests e top t state jump is all related = grind (arith, related_length, length-reverse, evaluated-taken, at_end)

-- the first test of all, which is the last of the list
pub first_test : (others : List Test) (x : Test) (e : Expression) (mode : Mode) (top t : Tree) → AreTestsOf (others ++ x ∷ []) e
    → NextTest others (length others + 1) x (branches_of_whole e) (Some (record { left = length others + 1; truth = false })) mode top t
    × (truth mode e top t ≡ evaluated mode top t (branches_of_whole e) (Some (record { left = length others + 1; truth = false })))
first_test others x e mode top t a =
    let start : Jump = record { left = length others + 1; truth = false } in
    let many : length (others ++ x ∷ []) ≡ length others + 1 = length-append others (x ∷ []) in (
      rw many at (next_branch (others ++ x ∷ []) others x (branches_of_whole e) (Some start) mode top t refl a),
      from_first mode (others ++ x ∷ []) e top t (Some start) start refl (sym many) a,
    )

-- a condition has a test
first_branch : (e : Expression) (t f : ℕ) (others : List Branch) → (b : Branch) × (bs : List Branch) × (branches_of e t f others ≡ b ∷ bs)
first_branch (binary and_op l r) t f others = first_branch l (length (branches_of r t f others)) f (branches_of r t f others)
first_branch (binary or_op l r) t f others = first_branch l t (length (branches_of r t f others)) (branches_of r t f others)
first_branch e t f others = (record { condition = e; on_true = t; on_false = f }, others, refl)

pub no_tests : {A : Type 0} (tests : List Test) (e : Expression) → length tests ≡ 0 → AreTestsOf tests e → A
no_tests [] e none a = let k = first_branch e 0 0 [] in absurd (rw k.2 at a)
no_tests (x ∷ xs) e none a = cc

-- ---- in lax mode no test fails

question_total : (q : Question) (e : Expression) (top t : Tree) → IsQuestionOf q e → IsOkAnd (truth Lax e top t) Any
question_total (question.Compared c) e top t h = comparison_total c e top t h
question_total (question.ChildrenCompared c) e top t h = children_total c e top t h
question_total (question.MembersCompared c) e top t h =
    grind (arith, h.compares Lax top t, members_total (steps_view c.left.now) top (t ∷ []) h.left, members_total (steps_view c.right.now) top (t ∷ []) h.right)
question_total (question.MemberFound found) e top t h = grind (arith, h.finds Lax top t, members_total (steps_view found.names.now) top (t ∷ []) h.members)
question_total question.Unknown e top t h = grind (arith, h Lax top t)

branches_total : (tests : List Test) (branches : List Branch) (state : Option Jump) (top t : Tree) → AreBranches tests branches
    → IsOkAnd (evaluated Lax top t branches state) Any
branches_total [] [] state top t a = tt
branches_total (x ∷ xs) (b ∷ bs) state top t a = grind (arith, (branches_total xs bs), with_ok, Any, question_total)
branches_total _ _ state top t a = absurd a

pub condition_total : (tests : List Test) (e : Expression) (top t : Tree) → AreTestsOf tests e → IsOkAnd (truth Lax e top t) Any
condition_total tests e top t a =
    let jump : Jump = record { left = length tests; truth = false } in
    rw (sym (from_first Lax tests e top t (Some jump) jump refl refl a)) at
    (branches_total (reverse tests) (branches_of_whole e) (Some jump) top t a)

-- ---- a filter whose result is determined

-- the jump to the end, with false
pub is_closed : (jump : Jump) → ((jump.left == 0) && not jump.truth) ≡ true → (jump.left ≡ 0) × (jump.truth ≡ false)
is_closed jump h = grind (arith, both_true, eqb-true)

pub settled : (tests : List Test) (branches : List Branch) (mode : Mode) (state : Option Jump) (top t : Tree) → is_settled mode state ≡ true
    → AreBranches tests branches → and_then (evaluated mode top t branches state) (λ b. Ok (filtered t b)) ≡ Ok (filtered t (jump_truth state))
settled tests branches Strict state top t h a = cc
settled [] [] Lax state top t h a = refl
settled (x ∷ xs) (b ∷ bs) Lax None top t h a =
    grind (arith, question_total x.question b.condition top t a.0.question, settled xs bs Lax None top t h a.1)
settled (x ∷ xs) (b ∷ bs) Lax (Some jump) top t h a =
    grind (
      arith,
      question_total x.question b.condition top t a.0.question,
      settled xs bs Lax (Some jump) top t h a.1,
      settled xs bs Lax None top t refl a.1,
      is_closed jump h,
      lt-leb (length (b ∷ bs)) jump.left,
    )
settled _ _ Lax state top t h a = absurd a

-- ---- members

-- what was found is there if and only if the list has an item
pub found_is_item : (R : Spot → Tree → Type 0) (found : Option Spot) (ts : List Tree) → AllZip R (option_spots found) ts → is_some found ≡ is_some (first_item ts)
found_is_item R found ts a = grind arith

-- the truth by the steps as they are evaluated within an operand
pub both_members : (c : MembersCompared) (e : Expression) (mode : Mode) (top t : Tree) → AreMembersCompared c e → truth mode e top t
    ≡ and_then (steps_meaning mode (steps_of (map (taken_step AreRefused) (steps_view c.left.now))) top (t ∷ []))
    (λ ls. and_then (steps_meaning mode (steps_of (map (taken_step AreRefused) (steps_view c.right.now))) top (t ∷ []))
    (λ rs. Ok (compare c.op (flat_map values_of_item ls) (flat_map values_of_item rs))))
both_members c e mode top t k = grind (arith, refused_steps)

-- an expression whose operands are two members
pub compares_members : (mode : Mode) (op : BinaryOp) (l r : Steps) (top t : Tree) → is_comparison op ≡ true
    → truth mode (binary op (paths (step current l)) (paths (step current r))) top t
    ≡ and_then (steps_meaning mode l top (t ∷ []))
    (λ ls. and_then (steps_meaning mode r top (t ∷ [])) (λ rs. Ok (compare op (flat_map values_of_item ls) (flat_map values_of_item rs))))
compares_members mode op l r top t compares = rw (comparison_is mode op (paths (step current l)) (paths (step current r)) top t compares) (grind arith)
