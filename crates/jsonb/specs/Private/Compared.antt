-- Filters that compare members of the item with literals.
use Rattle.std.specs.Prelude.{◌≡◌, true, List, [], ◌∷◌, flat_map, Option, Some, None, Ok, Err}
use Rattle.jsonb_doc.specs.Answer.{Outcome, and_then, try_flat_map, Refines, IsOutOfMemory}
use Rattle.jsonb_doc.specs.Tree.{Tree}
use Rattle.jsonb.specs.PathTree.{BinaryOp, eq, not_eq, lt, lte, gt, gte, Expression, steps_of}
use Rattle.jsonb.specs.PathViews.{literal_view, steps_view}
use Rattle.jsonb.specs.Compare.{Truth, compare}
use Rattle.jsonb.specs.ItemSteps.{field_step}
use Rattle.jsonb.specs.Values.{literal_value, values_of_item}
use Rattle.jsonb.specs.Meaning.{steps_meaning, truth}
use Rattle.jsonb.specs.Private.Calculation.{expression_predicate}
use Rattle.jsonb.specs.Private.ItemSteps.{values_step}
use Rattle.jsonb.specs.Private.Members.{are_members}
use Rattle.jsonb.specs.Private.Selection.{value_view}
use Rattle.jsonb.specs.declared.selector.compared_lists.ListCompared.{ListCompared}
use Rattle.jsonb.specs.declared.selector.compared_lists.RootCompared.{RootCompared}
use Rattle.jsonb.specs.declared.selector.document.Mode.{Mode}
use Rattle.jsonb.specs.declared.selector.document.Mode.TheVariants.{Lax}
use Rattle.jsonb.specs.declared.selector.plan.MemberCompared.{MemberCompared}

-- the expression compares the member that these steps name with the literal
pub record IsMemberCompared (c : MemberCompared) (e : Expression) : Type 0 where
  pub members : are_members (steps_view c.names.now) ≡ true
  pub compares : (mode : Mode) (top t : Tree) → truth mode e top t
      ≡ and_then (steps_meaning mode (steps_of (steps_view c.names.now)) top (t ∷ []))
      (λ ts. Ok (compare c.op (flat_map values_of_item ts) (value_view c.literal ∷ [])))

-- the expression compares the children of the member that these steps name with the literal
pub record AreChildrenCompared (c : MemberCompared) (e : Expression) : Type 0 where
  pub members : are_members (steps_view c.names.now) ≡ true
  pub compares : (mode : Mode) (top t : Tree) → truth mode e top t
      ≡ and_then (steps_meaning mode (steps_of (steps_view c.names.now)) top (t ∷ []))
      (λ us. and_then (try_flat_map (values_step mode) us)
      (λ ts. Ok (compare c.op (flat_map values_of_item ts) (value_view c.literal ∷ []))))

-- as a predicate, the expression compares the value of this key of the root with the literal
abbrev pub IsRootCompared : RootCompared → Expression → Type 0
IsRootCompared c e = (mode : Mode) (top : Tree) → expression_predicate mode e top
    ≡ and_then (field_step mode c.name.now top)
    (λ ts. Ok (compare c.op (flat_map values_of_item ts) (literal_value (literal_view c.literal.now) ∷ [])))

-- the operator that compares two values as this one does with its sides exchanged
abbrev pub mirrored : BinaryOp → Option BinaryOp
mirrored eq = Some eq
mirrored not_eq = Some not_eq
mirrored lt = Some gt
mirrored lte = Some gte
mirrored gt = Some lt
mirrored gte = Some lte
mirrored _ = None

-- the truth of the comparison of a member of each item
abbrev pub items_truth : MemberCompared → Tree → List Tree → Outcome Truth
items_truth c top items =
    and_then (steps_meaning Lax (steps_of (steps_view c.names.now)) top items)
    (λ ts. Ok (compare c.op (flat_map values_of_item ts) (value_view c.literal ∷ [])))

-- the expression compares members of the items that these steps lead to
pub record IsListCompared (list : ListCompared) (e : Expression) : Type 0 where
  pub each : Expression
  pub member : IsMemberCompared list.comparison each
  pub compares : (top : Tree) → truth Lax e top top
      ≡ and_then (steps_meaning Lax (steps_of (steps_view list.front.now)) top (top ∷ []))
      (items_truth list.comparison top)

-- Holds if the result, if there is one, is that of the meaning.
abbrev pub RefinesIfAny : {A B : Type 0} → (A → B → Type 0) → Outcome (Option A) → Outcome B → Type 0
RefinesIfAny R (Ok (Some x)) meaning = Refines R IsOutOfMemory (Ok x) meaning
RefinesIfAny R (Ok None) meaning = Unit {0}
RefinesIfAny R (Err e) meaning = Refines R IsOutOfMemory (Err e) meaning
