use Rattle.jsonb_raw.proofs.Lemmas.{◌≡◌, [], arith, sym, ap, ◌∙◌, Ordering, le_trans, ordering_then, slice_cmp, rank, tree_cmp, level_room, parts, part_cmp, parts_left, SomeParts-first, SomeParts-error, SomeParts-none, all_left, child_told, first_falls, decides_along, equal_passes, next_children, ended, children_ended, parts_in_order, container_rank, container_content}
use Rattle.jsonb_raw.specs.Private.Order.{Decides}
use Rattle.jsonb_raw.proofs.LevelLemmas.{none_left, decided}
use Rattle.jsonb_raw.proofs.order.+order.Goals.{children_order-then-is_some, children_order-else-is_some}
use Rattle.jsonb_raw.proofs.order.+order.Goals as goal

-- ---- entries

pub entries_order-returns-in_err-left-clause-order : goal.entries_order-returns-in_err-left-clause-order
entries_order-returns-in_err-left-clause-order t c = λ form other_form s u h k.
    let l = rw c.in-Some.is at (c.loop-left.invariant.left form other_form s u h k) in
    absurd (c.in_err-left.ensures.order form other_form l.0 l.1 l.2 l.3)

pub entries_order-loop-left-preserved : goal.entries_order-loop-left-preserved
entries_order-loop-left-preserved t c = record {
  shorter = let size = rw c.in-Some.is at c.loop-left.invariant.shorter in omega (arith, size, first_falls _ _ c.in_ok-left.ensures.shorter);
  left = λ form other_form s u h k.
      let l = rw c.in-Some.is at (c.loop-left.invariant.left form other_form s u h k) in
      rw l.4 at (c.in_ok-left.ensures.order form other_form l.0 l.1 l.2 l.3);
}

pub entries_order-returns-clause-order : goal.entries_order-returns-clause-order
entries_order-returns-clause-order t c = λ form other_form s u h k.
    none_left form other_form _ _ _ c.in_default.not-Some (c.loop-left.invariant.left form other_form s u h k)

-- ---- values

pub value_order-returns-clause-order : goal.value_order-returns-clause-order
value_order-returns-clause-order t c = λ form other_form s u rest whole h k d.
    child_told form other_form _ _ (tree_cmp s u) rest whole (c.entries_order.ensures.order form other_form s u h k) d

-- ---- children

pub children_order-returns-in_err-child-clause-order : goal.children_order-returns-in_err-child-clause-order
children_order-returns-in_err-child-clause-order t c = λ form other_form ps qs h k.
    SomeParts-error form _ _ _ _ _ (λ xs i. c.in_err-child.ensures.takes form xs i) (c.loop-child.invariant.left form other_form ps qs h k)

pub children_order-returns-in_err-other-clause-order : goal.children_order-returns-in_err-other-clause-order
children_order-returns-in_err-other-clause-order t c = λ form other_form ps qs h k.
    SomeParts-first form _ _ _ c.in-Some.child.0 c.in-Some.child.1 _ (λ xs i. rw c.in-Some.is at (c.in_ok-child.ensures.takes form xs i)) (c.loop-child.invariant.left form other_form ps qs h k)
    (λ p rest others keyed stored left around fact. SomeParts-error other_form _ _ _ _ _ (λ xs i. c.in_err-other.ensures.takes other_form xs i) fact)

pub children_order-returns-in_default-2-clause-order : goal.children_order-returns-in_default-2-clause-order
children_order-returns-in_default-2-clause-order t c = λ form other_form ps qs h k.
    SomeParts-first form _ _ _ c.in-Some.child.0 c.in-Some.child.1 _ (λ xs i. rw c.in-Some.is at (c.in_ok-child.ensures.takes form xs i)) (c.loop-child.invariant.left form other_form ps qs h k)
    (λ p rest others keyed stored left around fact.
    SomeParts-none other_form _ _ _ _ (λ xs i. rw c.in_default-2.is at (c.in_ok-other.ensures.takes other_form xs i)) fact (λ others' around' both. both))

pub children_order-returns-in_err-order-clause-order : goal.children_order-returns-in_err-order-clause-order
children_order-returns-in_err-order-clause-order t c = λ form other_form ps qs h k.
    next_children form other_form _ c.args.after (ordering_then (slice_cmp part_cmp ps qs) c.args.after) _ _ _ _ _ _ (λ xs i. rw c.in-Some.is at (c.in_ok-child.ensures.takes form xs i))
    (λ xs i. rw c.in-Some-2.is at (c.in_ok-other.ensures.takes other_form xs i)) (c.loop-child.invariant.left form other_form ps qs h k)
    (λ p q xs ys left right keyed stored keyed' stored' both. absurd (c.in_err-order.ensures.order form other_form p q _ _ keyed stored keyed' stored' both))

pub children_order-returns-then-is_ne-clause-order : goal.children_order-returns-then-is_ne-clause-order
children_order-returns-then-is_ne-clause-order t c = λ form other_form ps qs h k.
    next_children form other_form _ c.args.after (ordering_then (slice_cmp part_cmp ps qs) c.args.after) _ _ _ _ _ _ (λ xs i. rw c.in-Some.is at (c.in_ok-child.ensures.takes form xs i))
    (λ xs i. rw c.in-Some-2.is at (c.in_ok-other.ensures.takes other_form xs i)) (c.loop-child.invariant.left form other_form ps qs h k)
    (λ p q xs ys left right keyed stored keyed' stored' both.
    decided form other_form _ _ (ordering_then (slice_cmp part_cmp xs ys) c.args.after) _ (sym c.is_ne.ensures ∙ c.if-is_ne.true)
    (c.in_ok-order.ensures.order form other_form p q _ _ keyed stored keyed' stored' both))

pub children_order-returns-then-is_ne-clause-shorter : goal.children_order-returns-then-is_ne-clause-shorter
children_order-returns-then-is_ne-clause-shorter t c =
    let smaller = rw c.in-Some.is at c.in_ok-child.ensures.smaller in
    (grind (arith, c.in_ok-order.ensures.size (level_room c.args.found) (le_trans smaller.size c.loop-child.invariant.room) c.loop-child.invariant.size))

pub children_order-loop-child-preserved : goal.children_order-loop-child-preserved
children_order-loop-child-preserved t c =
    let smaller = rw c.in-Some.is at c.in_ok-child.ensures.smaller in
    record {
      room = le_trans smaller.room c.loop-child.invariant.room;
      size = c.in_ok-order.ensures.size (level_room c.args.found) (le_trans smaller.size c.loop-child.invariant.room) c.loop-child.invariant.size;
      left = λ form other_form ps qs h k.
          next_children form other_form _ c.args.after (ordering_then (slice_cmp part_cmp ps qs) c.args.after) _ _ _ _ _ _ (λ xs i. rw c.in-Some.is at (c.in_ok-child.ensures.takes form xs i))
          (λ xs i. rw c.in-Some-2.is at (c.in_ok-other.ensures.takes other_form xs i)) (c.loop-child.invariant.left form other_form ps qs h k)
          (λ p q xs ys left right keyed stored keyed' stored' both.
          parts_left form _ [] _ xs [] left tt (parts_left other_form _ [] _ ys [] right tt
          (equal_passes form other_form _ _ (ordering_then (slice_cmp part_cmp xs ys) c.args.after) _ (sym c.is_ne.ensures ∙ c.if-is_ne.false)
          (c.in_ok-order.ensures.order form other_form p q _ _ keyed stored keyed' stored' both))));
    }

pub children_order-returns-in_err-take-clause-order : goal.children_order-returns-in_err-take-clause-order
children_order-returns-in_err-take-clause-order t c = λ form other_form ps qs h k.
    SomeParts-none form _ _ _ _ (λ xs i. rw c.in_default.is at (c.in_ok-child.ensures.takes form xs i)) (c.loop-child.invariant.left form other_form ps qs h k)
    (λ others around fact. SomeParts-error other_form _ _ _ _ _ (λ xs i. c.in_err-take.ensures.takes other_form xs i) fact)

pub children_order-returns-clause-order : goal.children_order-returns-clause-order
children_order-returns-clause-order t c = λ form other_form ps qs h k.
    SomeParts-none form _ _ _ _ (λ xs i. rw c.in_default.is at (c.in_ok-child.ensures.takes form xs i)) (c.loop-child.invariant.left form other_form ps qs h k)
    (λ others around fact.
    let order = children_ended other_form _ _ _ c.args.after (λ (o : Ordering). Decides form other_form c.loop-child.deferred o (ordering_then (slice_cmp part_cmp ps qs) c.args.after))
    (λ xs i. c.in_ok-take.ensures.takes other_form xs i) fact in
    elim c.if-is_some.branch [
      | children_order-then-is_some w ↦
          decides_along form other_form _ _ _ _ (ap (λ b. ended b c.args.after) (sym c.is_some.ensures ∙ w.if-is_some.true) ∙ sym w.order-is) order
      | children_order-else-is_some w ↦
          decides_along form other_form _ _ _ _ (ap (λ b. ended b c.args.after) (sym c.is_some.ensures ∙ w.if-is_some.false) ∙ sym w.order-is) order
    ])

-- ---- parts

pub parts_order-returns-in_ok-others-in-Array-clause-order : goal.parts_order-returns-in_ok-others-in-Array-clause-order
parts_order-returns-in_ok-others-in-Array-clause-order t c = λ form other_form s u h k.
    let item = c.in_ok-item.ensures.decodes form s h.content in
    let same : c.rank-kind.result ≡ c.rank-other_kind.result = omega (arith, c.if-kind-other_kind.false) in
    let ranks : rank s ≡ rank u = sym (c.rank-kind.ensures form s item) ∙ same
    ∙ c.rank-other_kind.ensures other_form u (c.in_ok-item-2.ensures.decodes other_form u k.content) in
    let bounds = container_rank form _ s c.in-Array.is item in
    let level = c.in_ok-children-in-Array.ensures.level form s (container_content form s _ _ bounds h.content) in
    let other = c.in_ok-others-in-Array.ensures.level other_form u (container_content other_form u _ _ (rw ranks at bounds) k.content) in
    rw (parts_in_order form other_form s u _ _ ranks level other)
    (c.children_order.ensures.order form other_form (parts s) (parts u) (all_left form s _ level) (all_left other_form u _ other))
