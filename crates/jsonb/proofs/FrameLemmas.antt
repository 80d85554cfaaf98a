-- What is open while an expression is read: each step of the reading keeps what the rules make of it.
use Rattle.jsonb.proofs.Common.{◌≡◌, ℕ, ◌+◌, List, [], ◌∷◌, ◌++◌, length, Bool, true, false, Option, Some, None, Result, IfOk, refl, sym, ap, ◌∙◌, arith, nat_tests, Parsed, Rule, ◌>>◌, literal, repeat, ws, ReadsSome, read_as, ConsumesInput, NeverGrows, some-no_more, repeat-goes, repeat-ends, behind, loop-goes, loop-ends, BinaryOp, binary, and_op, or_op, Expression, Step, filter, paths, steps_of, spaced, atom_with, and_with, or_with, expression, spaced_inner, spaced_operand, path_with, path_step, path_root, operand, unary_operator, unary_atom, binary_atom, group_with, exists_with, front_steps, first_step, plain_path, root_expression, operand_steps, another_atom, another_and, expression_view, joined_from, joined_view, joined_behind, partial_outcome, IsUnclosed, IsPartial, closed, filter_front, filter_step, steps_behind, opened_outcome, IsOpened, resumed, AreFrames, goes_in_filter, opening_outcome, as_path, Joined, PartialExpr, Opened, Opening, Bor}
use Rattle.jsonb.specs.declared.path.Expr.{Expr as CodeExpr}
use Rattle.jsonb.specs.Private.Frames.{operation}
use Rattle.jsonb.specs.declared.parser.expression.Frame.{Frame}
use Rattle.jsonb.proofs.InnerReadsSome.{begun}
use Rattle.jsonb.proofs.ExpressionReadsSome.{some-atom, some-and, some-path, some-and_separator, some-or_separator, grows-nested_or, some-nested_or}
use Rattle.jsonb.proofs.Bounds.{expression-rule, path_step-rule}
pub use Rattle.jsonb_doc.proofs.Basics.{empty_of as none_open}

grows-expression : (f : Bool) → NeverGrows (expression f)
unfolding expression
grows-expression f input e rest reads = grows-nested_or (length input + 1) f input e rest reads

some-another_atom : (f : Bool) → ReadsSome (another_atom expression f)
some-another_atom f = begun some-and_separator (λ _. some-no_more (atom_with expression f) (some-atom expression grows-expression f))

some-another_and : (f : Bool) → ReadsSome (another_and expression f)
some-another_and f = begun some-or_separator (λ _. some-no_more (and_with expression f) (some-and expression grows-expression f))

-- ---- conditions

-- a separator, with what follows it
join-next : (op : BinaryOp) (separator : Rule (Unit {0})) (member : Rule Expression) → ReadsSome (separator >> member) →
    (j : Joined) (after : List ℕ) → separator j.before.now ≡ Some (tt, after) →
    joined_behind op (separator >> member) (Some j) (member after) ≡ joined_from op (separator >> member) (Some (expression_view j.left.value, j.before.now))
join-next op separator member some j after reads = go (member after) refl where
  another : (separator >> member) j.before.now ≡ member after
  another = rw reads refl

  go : (o : Parsed Expression) → member after ≡ o → joined_behind op (separator >> member) (Some j) o
      ≡ joined_from op (separator >> member) (Some (expression_view j.left.value, j.before.now))
  go None at = rw (repeat-ends (separator >> member) j.before.now (another ∙ at)) refl
  go (Some p) at = rw (repeat-goes (separator >> member) j.before.now p.0 p.1 (another ∙ at) (some j.before.now p.0 p.1 (another ∙ at))) (grind arith)

-- no condition before the next one
none-before : (op : BinaryOp) (another : Rule Expression) (o : Parsed Expression) → joined_behind op another None o ≡ joined_from op another o
none-before op another None = refl
none-before op another (Some p) = refl

-- a rule's list of conditions, joined as it is read
and-is : (f : Bool) (input : List ℕ) → joined_from and_op (another_atom expression f) (atom_with expression f input) ≡ and_with expression f input
unfolding and_with
and-is f input = grind arith

or-is : (f : Bool) (input : List ℕ) → joined_from or_op (another_and expression f) (and_with expression f input) ≡ or_with expression f input
unfolding or_with
or-is f input = grind arith

-- an expression before its first condition
pub partial-begins : (f : Bool) (input : List ℕ) →
    partial_outcome (record { is_in_filter = f; all = None; any = None }) (atom_with expression f input) ≡ expression f input
unfolding partial_outcome
partial-begins f input = grind (arith, and-is, or-is, expression-rule)

-- an expression whose conditions joined by `&&` are these
abbrev pub with_all : PartialExpr → Joined → PartialExpr
with_all l j = record { is_in_filter = l.is_in_filter; all = Some j; any = l.any }

abbrev pub with_any : PartialExpr → Joined → PartialExpr
with_any l j = record { is_in_filter = l.is_in_filter; all = None; any = Some j }

pub and-goes : (l : PartialExpr) (e : Expression) (j : Joined) (after : List ℕ) → expression_view j.left.value ≡ joined_view and_op l.all e →
    spaced (literal "&&") j.before.now ≡ Some (tt, after) →
    partial_outcome (with_all l j) (atom_with expression l.is_in_filter after) ≡ partial_outcome l (Some (e, j.before.now))
unfolding partial_outcome
and-goes l e j after left reads = ap (joined_behind or_op (another_and expression l.is_in_filter) l.any)
    (join-next and_op (spaced (literal "&&")) (atom_with expression l.is_in_filter) (some-another_atom l.is_in_filter) j after reads
    ∙ ap (λ (x : Expression). joined_from and_op (another_atom expression l.is_in_filter) (Some (x, j.before.now))) left)

or-here : (l : PartialExpr) (e : Expression) (input : List ℕ) → spaced (literal "&&") input ≡ None → partial_outcome l (Some (e, input))
    ≡ joined_from or_op (another_and expression l.is_in_filter) (Some (joined_view or_op l.any (joined_view and_op l.all e), input))
unfolding partial_outcome
or-here l e input none = grind (arith, repeat-ends)

pub or-goes : (l : PartialExpr) (e : Expression) (j : Joined) (after : List ℕ) → expression_view j.left.value
    ≡ joined_view or_op l.any (joined_view and_op l.all e) → spaced (literal "&&") j.before.now ≡ None → spaced (literal "||") j.before.now ≡ Some (tt, after) →
    partial_outcome (with_any l j) (atom_with expression l.is_in_filter after) ≡ partial_outcome l (Some (e, j.before.now))
unfolding partial_outcome
or-goes l e j after left none reads =
    ap (joined_behind or_op (another_and expression l.is_in_filter) (Some j))
    (none-before and_op (another_atom expression l.is_in_filter) (atom_with expression l.is_in_filter after) ∙ and-is l.is_in_filter after)
    ∙ join-next or_op (spaced (literal "||")) (and_with expression l.is_in_filter) (some-another_and l.is_in_filter) j after reads
    ∙ ap (λ (x : Expression). joined_from or_op (another_and expression l.is_in_filter) (Some (x, j.before.now))) left
    ∙ sym (or-here l e j.before.now none)

pub partial-ends : (l : PartialExpr) (e : Expression) (input : List ℕ) → spaced (literal "&&") input ≡ None → spaced (literal "||") input ≡ None →
    Some (joined_view or_op l.any (joined_view and_op l.all e), input) ≡ partial_outcome l (Some (e, input))
partial-ends l e input none none' = grind (arith, or-here, repeat-ends)

-- ---- filters that are not closed

pub filter-unclosed : (input after : List ℕ) → filter_front input ≡ Some (tt, after) → IsUnclosed input
unfolding filter_front ws
filter-unclosed input after e = grind (arith, nat_tests)

-- ---- what fails

-- what an expression had, if no condition follows
pub partial-ended-all : (l : PartialExpr) (j : Joined) → l.all ≡ Some j → spaced (literal "||") j.before.now ≡ None →
    partial_outcome l None ≡ Some (joined_view or_op l.any (expression_view j.left.value), j.before.now)
unfolding partial_outcome
partial-ended-all l j at none = grind (arith, repeat-ends)

partial-unclosed : (l : PartialExpr) → IsPartial l → closed (partial_outcome l None) ≡ None
unfolding partial_outcome ws
partial-unclosed l is = grind (arith, partial-ended-all, nat_tests)

pub opened-fails : (o : Opened) (inside : Parsed Expression) → IsOpened o → closed inside ≡ None → opened_outcome o inside ≡ None
unfolding opened_outcome ws
opened-fails o inside is none = grind (arith, nat_tests)

-- ---- the last frame

pub resumed-push : (frames : List Frame) (frame : Frame) (inside : Parsed Expression) →
    resumed (frames ++ frame ∷ []) inside ≡ resumed frames (partial_outcome frame.partial (opened_outcome frame.opened inside))
unfolding resumed
resumed-push [] frame inside = refl
resumed-push (first ∷ frames) frame inside =
    ap (λ (o : Parsed Expression). partial_outcome first.partial (opened_outcome first.opened o)) (resumed-push frames frame inside)

pub frames-push : (frames : List Frame) (frame : Frame) → AreFrames frames → IsPartial frame.partial → IsOpened frame.opened → AreFrames (frames ++ frame ∷ [])
frames-push [] frame are is is' = (is, is', tt)
frames-push (first ∷ frames) frame are is is' = (are.0, are.1, frames-push frames frame are.2 is is')

pub frames-pop : (frames : List Frame) (frame : Frame) → AreFrames (frames ++ frame ∷ []) → AreFrames frames × IsPartial frame.partial × IsOpened frame.opened
frames-pop [] frame are = (tt, are.0, are.1)
frames-pop (first ∷ frames) frame are = let others = frames-pop frames frame are.2 in ((are.0, are.1, others.0), others.1, others.2)

-- a frame is taken off, and the failure goes on through the others
pub failure-passed : (frames others : List Frame) (frame : Frame) (l : PartialExpr) → frames ≡ others ++ frame ∷ [] → IsPartial l → AreFrames frames
    → (resumed others (partial_outcome frame.partial None) ≡ resumed frames (partial_outcome l None)) × AreFrames others × IsPartial frame.partial
failure-passed frames others frame l whole is are = grind (arith, frames-pop, partial-unclosed, opened-fails, resumed-push)

-- ---- the end of parentheses

pub closed-none : (e : Expression) (input here : List ℕ) → ws input ≡ Some (tt, here) → literal ")" here ≡ None → closed (Some (e, input)) ≡ None
closed-none e input here space none = rw (space, none) refl

pub closed-some : (e : Expression) (input here end : List ℕ) → ws input ≡ Some (tt, here) → literal ")" here ≡ Some (tt, end) →
    closed (Some (e, input)) ≡ Some (e, end)
closed-some e input here end space reads = rw (space, reads) refl

pub filter-closes : (steps new : List Step) (before : List ℕ) (e : Expression) (input here end rest : List ℕ) → ws input ≡ Some (tt, here) →
    literal ")" here ≡ Some (tt, end) → ws end ≡ Some (tt, rest) → new ≡ steps ++ filter e ∷ [] →
    behind new (repeat (path_with expression) rest) ≡ steps_behind steps before (filter_step (Some (e, input)))
filter-closes steps new before e input here end rest space reads space' same = rw (space, reads, space', same) refl

-- ---- steps

-- the same of steps with no bound on parentheses
pub without_bound : (front front' : List Step) (input input' : List ℕ) → behind front (repeat path_step input) ≡ behind front' (repeat path_step input') →
    behind front (repeat (path_with expression) input) ≡ behind front' (repeat (path_with expression) input')
without_bound front front' input input' same = grind (arith, path_step-rule)

-- a filter, if there is no plain step
pub step-is_filter : (input inside : List ℕ) → spaced_inner input ≡ None → filter_front input ≡ Some (tt, inside) →
    path_with expression input ≡ filter_step (expression true inside)
unfolding path_with group_with filter_front ws
step-is_filter input inside none front = grind arith

pub no_step : (input : List ℕ) → spaced_inner input ≡ None → filter_front input ≡ None → path_with expression input ≡ None
unfolding path_with group_with filter_front ws
no_step input none front = grind arith

-- the steps up to a filter, and what that makes of its inside
pub steps-open : (steps : List Step) (input inside : List ℕ) → spaced_inner input ≡ None → filter_front input ≡ Some (tt, inside) →
    steps_behind steps input (filter_step (expression true inside)) ≡ behind steps (repeat (path_with expression) input)
steps-open steps input inside none front = grind (arith, step-is_filter, loop-ends, loop-goes, some-path, grows-expression)

pub steps-end : (steps : List Step) (input : List ℕ) → spaced_inner input ≡ None → filter_front input ≡ None →
    behind steps (repeat (path_with expression) input) ≡ Some (steps, input)
steps-end steps input none front = loop-ends (path_with expression) steps input _ (no_step input none front) refl

-- a plain step is a step
pub inner-is_step : (input : List ℕ) (p : Step × List ℕ) → spaced_inner input ≡ Some p → path_step input ≡ Some p
unfolding path_step path_with
inner-is_step input p e = rw e refl

-- ---- the front of a path

pub path-begins : (input : List ℕ) (front : List Step) (rest : List ℕ) → Some (front, rest) ≡ front_steps input →
    behind front (repeat path_step rest) ≡ plain_path input
unfolding plain_path
path-begins input front rest e = grind arith

-- the root alone, and the steps after it
pub root-begins : (input : List ℕ) (s : Step) (rest : List ℕ) → Some (s, rest) ≡ path_root false input →
    behind (s ∷ []) (repeat path_step rest) ≡ plain_path input
unfolding path_root plain_path front_steps first_step
root-begins input s rest e = grind arith

ws-dollar : (tail : List ℕ) → ws (36 ∷ tail) ≡ Some (tt, 36 ∷ tail)
unfolding ws
ws-dollar tail = refl

dollar : (input : List ℕ) (p : List Step × List ℕ) → operand_steps false input ≡ Some p → (tail : List ℕ) × (input ≡ 36 ∷ tail)
unfolding path_root
dollar input p e = grind (arith, nat_tests)

module _ (tail : List ℕ) (ss : List Step) (rest here : List ℕ) (reads : operand_steps false (36 ∷ tail) ≡ Some (ss, rest))
    (space : ws rest ≡ Some (tt, here)) where
  atom-some : (op : BinaryOp) (e : Expression) (after : List ℕ) → operation false here ≡ Some ((op, e), after) →
      atom_with expression false (36 ∷ tail) ≡ Some (binary op (paths (steps_of ss)) e, after)
  unfolding atom_with unary_atom unary_operator binary_atom operation spaced_operand operand ws
  atom-some op e after is = grind arith

  atom-none : operation false here ≡ None → atom_with expression false (36 ∷ tail) ≡ None
  unfolding atom_with unary_atom unary_operator group_with exists_with binary_atom operation spaced_operand operand ws
  atom-none none = grind arith

whole : (input here : List ℕ) → ws input ≡ Some (tt, here) → as_path (expression false here) ≡ root_expression input
unfolding root_expression
whole input here space = grind arith

-- an expression whose first atom this is
pub front-is : (input here : List ℕ) (o : Parsed Expression) → ws input ≡ Some (tt, here) → o ≡ atom_with expression false here →
    as_path (partial_outcome (record { is_in_filter = false; all = None; any = None }) o) ≡ root_expression input
front-is input here o space is = grind (arith, partial-begins, whole)

-- steps, and an operation on them
pub front-operation : (input rest here : List ℕ) (ss : List Step) (op : BinaryOp) (e : Expression) (after : List ℕ) →
    operand_steps false input ≡ Some (ss, rest) → ws rest ≡ Some (tt, here) → operation false here ≡ Some ((op, e), after) →
    as_path (partial_outcome (record { is_in_filter = false; all = None; any = None }) (Some (binary op (paths (steps_of ss)) e, after)))
    ≡ root_expression input
front-operation input rest here ss op e after reads space is =
    let d = dollar input (ss, rest) reads in
    rw (sym d.1) at (front-is (36 ∷ d.0) (36 ∷ d.0) _ (ws-dollar d.0) (sym (atom-some d.0 ss rest here (rw d.1 at reads) space op e after is)))

-- steps alone
pub front-steps : (input rest here : List ℕ) (ss : List Step) → operand_steps false input ≡ Some (ss, rest) → ws rest ≡ Some (tt, here) →
    operation false here ≡ None → root_expression input ≡ None
unfolding partial_outcome path_root
front-steps input rest here ss reads space none = grind (arith, front-is, ws-dollar, atom-none, nat_tests)

-- ---- the loop over what is open

pub at_start : (frames : List Frame) (l start : PartialExpr) (first : Opening) → frames ≡ [] → l ≡ start →
    resumed frames (partial_outcome l (opening_outcome l.is_in_filter first)) ≡ partial_outcome start (opening_outcome start.is_in_filter first)
unfolding resumed
at_start frames l start first none same = rw (none, same) refl

pub inside-goes : (frames new : List Frame) (frame : Frame) (l : PartialExpr) (f : Bool) (inside : List ℕ) (opening : Opening) → new ≡ frames ++ frame ∷ [] → f
    ≡ goes_in_filter frame.opened frame.partial.is_in_filter → l ≡ record { is_in_filter = f; all = None; any = None } → opening_outcome f opening
    ≡ atom_with expression f inside → resumed new (partial_outcome l (opening_outcome l.is_in_filter opening))
    ≡ resumed frames (partial_outcome frame.partial (opened_outcome frame.opened (expression (goes_in_filter frame.opened frame.partial.is_in_filter) inside)))
inside-goes frames new frame l f inside opening pushed flag same is = grind (arith, partial-begins, resumed-push)

pub less_left : {E : Type 0} (f : Bool) (input : List ℕ) (r : Result (Option (CodeExpr × Bor (List ℕ))) E) →
    IfOk r (λ found. read_as expression_view found ≡ expression f input) → IfOk r (ConsumesInput input)
unfolding expression
less_left f input r h = grind (arith, some-nested_or)
