-- The order of children, and results of walks along two containers, which may leave a pair of children.
use Rattle.std.specs.Prelude.{◌≡◌, ◌<◌, ℕ, List, length, Option, Some, None, IfSome}
use Rattle.std.specs.Ordering.{ordering_then, nat_cmp}
use Rattle.std.specs.Cmp.Lexicographic.{slice_cmp}
use Rattle.std.specs.declared.cmp.Ordering.{Ordering}
use Rattle.std.specs.declared.cmp.Ordering.TheVariants.{Equal}
use Rattle.jsonb_doc.specs.Tree.{Tree}
use Rattle.jsonb_doc.specs.Order.{tree_cmp}
use Rattle.jsonb_doc.specs.Payload.{Form}
use Rattle.jsonb_doc.specs.Private.Stored.{Stores}
use Rattle.jsonb_doc.specs.declared.entry_iter.StoredEntry.{StoredEntry}
use Rattle.jsonb_raw.specs.Private.Levels.{EntryPrefix}
use Rattle.jsonb_raw.specs.declared.order.Ordered.{Ordered}

-- The order of two keys. Elements have none.
abbrev pub key_cmp : Option (List ℕ) → Option (List ℕ) → Ordering
key_cmp (Some k) (Some l) = slice_cmp nat_cmp k l
key_cmp _ _ = Equal

-- The order of two children: of their keys, and then of their trees.
abbrev pub part_cmp : EntryPrefix → EntryPrefix → Ordering
part_cmp p q = ordering_then (key_cmp p.0 q.0) (tree_cmp p.1 q.1)

-- the order of the pair, if there is one, and then this order is the whole
abbrev pub Decides : Form → Form → Option (StoredEntry × StoredEntry) → Ordering → Ordering → Type 0
Decides form other_form None order whole = order ≡ whole
Decides form other_form (Some p) order whole =
    (t : Tree) × (u : Tree) × Stores form p.0 t × Stores other_form p.1 u × (ordering_then (tree_cmp t u) order ≡ whole)

-- the first of the pair, if there is one, is shorter than this
abbrev pub IsShorter : Ordered → ℕ → Type 0
IsShorter told len = IfSome told.deferred (λ p. length p.0.content.now < len)
