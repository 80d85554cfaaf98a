-- The iterator over the elements of an array.
use Rattle.std.specs.Prelude.{Option, Some, None, Result, Ok, IfSome, IfOk}
use Rattle.jsonb_doc.specs.Tree.{Trees, no_trees, tree}
use Rattle.jsonb_doc.specs.Payload.{Form}
use Rattle.jsonb_doc.specs.Item.{StandsFor, IsNormal}
use Rattle.jsonb_doc.specs.declared.item.Item.{Item}
use Rattle.jsonb_doc.specs.declared.element_iter.ElementIter.{ElementIter}
use Rattle.jsonb_doc.specs.declared.error.Error.{Error}
use Rattle.jsonb_doc.specs.AnyBytes.Iterators.{NextElement}
use Rattle.jsonb_doc.specs.Representation.Iterators.{HasElementsLeft}

-- Holds if the result is the first of the trees, and the others remain.
abbrev pub TakesElement : Form → Trees → Option (Result Item Error) → ElementIter → Type 0
TakesElement form no_trees None after = HasElementsLeft form after no_trees
TakesElement form (tree t ts) (Some (Ok item)) after = StandsFor form item t × HasElementsLeft form after ts
TakesElement form _ _ after = ⊥

-- Holds if this is what a call of `next` does.
pub record GivesElement (before : ElementIter) (r : Option (Result Item Error)) (after : ElementIter) : Type 0 where
  pub any_bytes : NextElement before r after
  pub takes : (form : Form) (ts : Trees) → HasElementsLeft form before ts → TakesElement form ts r after
  pub normal : IfSome r (λ x. IfOk x IsNormal)
