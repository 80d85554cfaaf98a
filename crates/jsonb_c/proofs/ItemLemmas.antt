-- The first of the items that a handle keeps.
use Rattle.std.proofs.Common.{◌≡◌, ◌∙◌, ◌<◌, ℕ, List, [], ◌∷◌, Some, length, slice_index_or, ap, refl, sym, subst, arith}
use Rattle.std.specs.List.{AllZip}
use Rattle.jsonb_doc.specs.Payload.{Form}
use Rattle.jsonb_doc.specs.Tree.{Tree}
use Rattle.jsonb.specs.FoundItems.{IsItemOf}
use Rattle.jsonb.specs.SelectorAnswers.{first_item}
use Rattle.jsonb.specs.declared.selector.found.FoundItem.{FoundItem}
use Rattle.jsonb.specs.declared.selector.found.FoundItem.TheVariants.{At, Number, Document}
use Rattle.jsonb_c.specs.Items.{is_first_computed}
use Rattle.jsonb_c.specs.Private.Boxes.{is_computed}

pub first_is : (form : Form) (document : List ℕ) (items : List FoundItem) (ts : List Tree) (item : FoundItem) → 0 < length items
    → item ≡ slice_index_or items 0 item → AllZip (IsItemOf document form) items ts
    → (t : Tree) × (first_item ts ≡ Some t) × IsItemOf document form item t
first_is form document [] ts item some is h = absurd (omega (arith, some))
first_is form document (x ∷ items) [] item some is h = absurd h
first_is form document (x ∷ items) (t ∷ ts) item some is h = (t, refl, subst (λ y. IsItemOf document form y t) (sym is) h.0)

pub first_computed : (items : List FoundItem) (item : FoundItem) → 0 < length items → item ≡ slice_index_or items 0 item
    → is_first_computed items ≡ is_computed item
first_computed [] item some is = absurd (omega (arith, some))
first_computed (x ∷ items) item some is = first x ∙ ap is_computed (sym is)
  where
    first : (y : FoundItem) → is_first_computed (y ∷ items) ≡ is_computed y
    first (At spot) = refl
    first (Number n) = refl
    first (Document made) = refl
