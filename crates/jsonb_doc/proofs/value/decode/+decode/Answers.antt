use Rattle.jsonb_doc.proofs.Lemmas.{array_document, object_document, inr, widest, number, number_content, some_injective, reads_number, ◌≡◌, ℕ, ◌∷◌, ◌++◌, List, string_bytes, arith, refl, sym, ap, subst, ◌∙◌, reverse, nil_from_length, inl, number_reader, IsCut-same, IsCut-scalar, elements_held, pairs_held, first_name, Tree, Trees, Pairs, array, object, elements, members, keys, trees_of, pairs_of, AreKeys, tree_seen, trees_seen, members_seen, tree_seen-Array, tree_seen-Object, first_element, first_member, no_member, elements_begin, elements_go_on, elements_end, members_begin, members_go_on, members_end, widest_with, array_goes_on, object_goes_on, whole_of, LeadsTo-popped, err_is, innermost}
use Rattle.jsonb_doc.specs.Private.Filling.{LeadsTo}
use Rattle.jsonb_doc.specs.declared.container.Container.TheVariants.{Array as ArrayOf, Object as ObjectOf}
use Rattle.jsonb_doc.proofs.value.decode.+decode.Goals as goal

-- ---- one container

pub closed-returns-in_err-fill_array-in-Array-clause-decodes : goal.closed-returns-in_err-fill_array-in-Array-clause-decodes
closed-returns-in_err-fill_array-in-Array-clause-decodes t c = λ seen keeps form whole makes.
    let (ts, left, made) = rw c.in-Array.is at makes in
    err_is _ _ _ _ c.from_residual-in_err-fill_array-in-Array.ensures.1 (c.in_err-fill_array-in-Array.ensures.decodes seen keeps form ts left)

pub closed-returns-in_err-fill_object-in-Object-clause-decodes : goal.closed-returns-in_err-fill_object-in-Object-clause-decodes
closed-returns-in_err-fill_object-in-Object-clause-decodes t c = λ seen keeps form whole makes.
    let (ps, left, rising, made) = rw c.in-Object.is at makes in
    let next = object_goes_on seen _ _ c.in-Object.name c.args.value ps whole c.in_ok-insert-in-Object.ensures.entries rising made in
    err_is _ _ _ _ c.from_residual-in_err-fill_object-in-Object.ensures.1 (c.in_err-fill_object-in-Object.ensures.decodes seen keeps form ps left next.0)

pub closed-returns-in_ok-fill_array-in-Array-clause-decodes : goal.closed-returns-in_ok-fill_array-in-Array-clause-decodes
closed-returns-in_ok-fill_array-in-Array-clause-decodes t c = λ seen keeps form whole makes.
    let (ts, left, made) = rw c.in-Array.is at makes in
    let next = array_goes_on seen _ _ _ ts whole c.in_ok-push-in-Array.ensures.items made in
    whole_of seen form _ _ whole (c.in_ok-fill_array-in-Array.ensures.whole refl) c.whole.ensures.whole
    (rw next at (c.in_ok-fill_array-in-Array.ensures.decodes seen keeps form ts left))

pub closed-returns-in_ok-fill_object-in-Object-clause-decodes : goal.closed-returns-in_ok-fill_object-in-Object-clause-decodes
closed-returns-in_ok-fill_object-in-Object-clause-decodes t c = λ seen keeps form whole makes.
    let (ps, left, rising, made) = rw c.in-Object.is at makes in
    let next = object_goes_on seen _ _ c.in-Object.name c.args.value ps whole c.in_ok-insert-in-Object.ensures.entries rising made in
    whole_of seen form _ _ whole (c.in_ok-fill_object-in-Object.ensures.whole refl) c.whole-in-Object.ensures.whole
    (rw next.1 at (c.in_ok-fill_object-in-Object.ensures.decodes seen keeps form ps left next.0))

-- ---- the containers around

pub closed_all-returns-in_err-value-clause-decodes : goal.closed_all-returns-in_err-value-clause-decodes
closed_all-returns-in_err-value-clause-decodes t c = λ seen keeps form whole leads.
    let (inner, makes, rest) = LeadsTo-popped seen form c.loop-outer.around.items c.pop.new.self.items c.in-Some.outer (tree_seen seen c.loop-outer.value) whole
    c.in-Some.ensures.items (c.loop-outer.invariant.left seen keeps form whole leads) in
    err_is _ _ _ _ c.from_residual.ensures.1 (c.in_err-value.ensures.decodes seen keeps form inner makes)

pub closed_all-loop-outer-preserved : goal.closed_all-loop-outer-preserved
closed_all-loop-outer-preserved t c = record {
  left = λ seen keeps form whole leads.
      let (inner, makes, rest) = LeadsTo-popped seen form _ _ _ (tree_seen seen c.loop-outer.value) whole
      c.in-Some.ensures.items (c.loop-outer.invariant.left seen keeps form whole leads) in
      subst (λ (x : Tree). LeadsTo seen form (reverse c.pop.new.self.items) x whole) (sym (c.in_ok-value.ensures.decodes seen keeps form inner makes)) rest;
  room = omega (arith, widest_with _ _ _ c.in-Some.ensures.items, c.loop-outer.invariant.room);
}

pub closed_all-returns-clause-decodes : goal.closed_all-returns-clause-decodes
closed_all-returns-clause-decodes t c = λ seen keeps form whole leads.
    rw (nil_from_length c.loop-outer.around.items (omega (arith, c.in_default.ensures.cases.0, c.loop-outer.around.ok.0)))
    at (c.loop-outer.invariant.left seen keeps form whole leads)

pub container_value-returns-in_err-value-clause-decodes : goal.container_value-returns-in_err-value-clause-decodes
container_value-returns-in_err-value-clause-decodes t c = λ seen keeps form whole content.
    err_is _ _ _ _ c.from_residual.ensures.1 (c.in_err-value.ensures.decodes seen keeps form whole content)

pub container_value-returns-in-Whole-clause-decodes : goal.container_value-returns-in-Whole-clause-decodes
container_value-returns-in-Whole-clause-decodes t c = λ seen keeps form whole content.
    rw c.in-Whole.is at (c.in_ok-value.ensures.decodes seen keeps form whole content)

pub container_value-returns-in-Within-clause-decodes : goal.container_value-returns-in-Within-clause-decodes
container_value-returns-in-Within-clause-decodes t c = λ seen keeps form whole content.
    let (part, part_content, makes) = rw c.in-Within.is at (c.in_ok-value.ensures.decodes seen keeps form whole content) in
    c.value_around.ensures.decodes seen keeps form part whole part_content makes

pub value_around-loop-around-init : goal.value_around-loop-around-init
value_around-loop-around-init t c =
    let none : widest (reverse c.new-around.result.items) ≡ 0 = rw c.new-around.ensures.items refl in
    record {
      left = λ seen keeps form t whole content makes. (t, content, grind (arith, innermost, c.in_ok-push.ensures.items, c.new-around.ensures.items));
      shorter = omega arith;
      room = omega (arith, widest_with c.new-around.result.items _ c.args.outer c.in_ok-push.ensures.items, none);
    }

pub value_around-returns-in_err-value-clause-decodes : goal.value_around-returns-in_err-value-clause-decodes
value_around-returns-in_err-value-clause-decodes t c = λ seen keeps form t whole content makes.
    let (inner, inner_content, leads) = c.loop-around.invariant.left seen keeps form t whole content makes in
    err_is _ _ _ _ c.from_residual-in_err-value.ensures.1 (c.in_err-value.ensures.decodes seen keeps form inner inner_content)

pub value_around-returns-in-Whole-clause-decodes : goal.value_around-returns-in-Whole-clause-decodes
value_around-returns-in-Whole-clause-decodes t c = λ seen keeps form t whole content makes.
    let (inner, inner_content, leads) = c.loop-around.invariant.left seen keeps form t whole content makes in
    let same : tree_seen seen c.in-Whole.value ≡ inner = rw c.in-Whole.is at (c.in_ok-value.ensures.decodes seen keeps form inner inner_content) in
    c.closed_all.ensures.decodes seen keeps form whole (rw (← same) at leads)

pub value_around-loop-around-preserved : goal.value_around-loop-around-preserved
value_around-loop-around-preserved t c =
    let inv = c.loop-around.invariant in
    let size = rw c.in-Within.is at c.in_ok-value.ensures.size in
    let pushed = c.in_ok-push-in-Within.ensures.items in
    record {
      left = λ seen keeps form t whole content makes.
          let (part, part_content, leads) = inv.left seen keeps form t whole content makes in
          let (inner, inner_content, next) = rw c.in-Within.is at (c.in_ok-value.ensures.decodes seen keeps form part part_content) in
          (inner, inner_content, grind (arith, innermost));
      shorter = omega (arith, inv.shorter, size.0);
      room = omega (arith, widest_with c.loop-around.around.items _ c.in-Within.next pushed, inv.shorter, inv.room, size.1);
    }

-- ---- the beginning of a container

pub opened-returns-in_err-parts-clause-decodes : goal.opened-returns-in_err-parts-clause-decodes
opened-returns-in_err-parts-clause-decodes t c = λ seen keeps form u content.
    absurd (c.in_err-parts.ensures.cut.1 (number_reader form) u (inl content))

pub opened-returns-in-Scalar-clause-decodes : goal.opened-returns-in-Scalar-clause-decodes
opened-returns-in-Scalar-clause-decodes t c = λ seen keeps form u content.
    absurd (IsCut-scalar (number_reader form) c.args.bytes.now c.in-Scalar.field-0 (rw c.in-Scalar.is at c.in_ok-parts.ensures.cut) u content)

pub opened-returns-in_ok-values-in-Array-clause-decodes : goal.opened-returns-in_ok-values-in-Array-clause-decodes
opened-returns-in_ok-values-in-Array-clause-decodes t c = λ seen keeps form u content.
    let held = (IsCut-same c.args.bytes.now (ArrayOf c.in-Array.parts) (rw c.in-Array.is at c.in_ok-parts.ensures.cut) (number_reader form) u).0 (inl content) in
    let (ts, is, entries) = elements_held form u c.in-Array.parts held in
    rw (ap array (elements_begin seen _ ts c.in_ok-values-in-Array.ensures.items) ∙ sym is)
    at (c.fill_array.ensures.decodes seen keeps form ts (record { entries = entries }))

pub opened-returns-in_err-left-in-Object-clause-decodes : goal.opened-returns-in_err-left-in-Object-clause-decodes
opened-returns-in_err-left-in-Object-clause-decodes t c = λ seen keeps form u content.
    let held = (IsCut-same c.args.bytes.now (ObjectOf c.in-Object.parts) (rw c.in-Object.is at c.in_ok-parts.ensures.cut) (number_reader form) u).0 (inl content) in
    let (ps, is, parts) = pairs_held form u c.in-Object.parts held in
    absurd (c.in_err-left-in-Object.ensures.entries form ps parts)

pub opened-returns-in_ok-left-in-Object-clause-decodes : goal.opened-returns-in_ok-left-in-Object-clause-decodes
opened-returns-in_ok-left-in-Object-clause-decodes t c = λ seen keeps form u content.
    let held = (IsCut-same c.args.bytes.now (ObjectOf c.in-Object.parts) (rw c.in-Object.is at c.in_ok-parts.ensures.cut) (number_reader form) u).0 (inl content) in
    let (ps, is, parts) = pairs_held form u c.in-Object.parts held in
    let same = members_begin seen _ ps c.new.ensures.empty in
    let rising = subst (λ (qs : Pairs). AreKeys (keys qs)) (sym same) parts.are_keys in
    rw (ap object same ∙ sym is) at (c.fill_object.ensures.decodes seen keeps form ps (c.in_ok-left-in-Object.ensures.entries form ps parts) rising)

-- ---- entries

pub item_value-returns-in-Extension-clause-decodes : goal.item_value-returns-in-Extension-clause-decodes
item_value-returns-in-Extension-clause-decodes t c = λ seen keeps sees form u stands. c.extension_value.ensures seen ∙ sym (rw c.in-Extension.is at stands)

pub item_value-returns-in-Array-clause-decodes : goal.item_value-returns-in-Array-clause-decodes
item_value-returns-in-Array-clause-decodes t c = λ seen keeps sees form u stands. elim c.in-Array.is [
  | inl e ↦ let (ts, is, d) = rw e at stands in c.container_value.ensures.decodes seen keeps form u (rw is (array_document (number_reader form) ts _ d.document))
  | inr e ↦ let (ps, is, d) = rw e at stands in c.container_value.ensures.decodes seen keeps form u (rw is (object_document (number_reader form) ps _ d.document))
]

pub entry_value-returns-in-Text-clause-decodes : goal.entry_value-returns-in-Text-clause-decodes
entry_value-returns-in-Text-clause-decodes t c = λ seen keeps form u stores. c.read_text.ensures.text seen form u (rw c.in-Text.is at stores.content)

pub entry_value-returns-in-Some-clause-decodes : goal.entry_value-returns-in-Some-clause-decodes
entry_value-returns-in-Some-clause-decodes t c = λ seen keeps form u stores.
    let (n, is, reads) = number_content (number_reader form) _ _ u c.in-Some.ensures.kind stores.content in
    let same = some_injective (sym c.in-Some.ensures.number ∙ reads_number form _ n reads) in
    c.number_value.ensures seen keeps ∙ ap number same ∙ sym is

-- ---- arrays

pub fill_array-returns-in_err-entry-clause-decodes : goal.fill_array-returns-in_err-entry-clause-decodes
fill_array-returns-in_err-entry-clause-decodes t c = λ seen keeps form ts h.
    let (left, has, joined) = c.loop-entry.invariant.left seen keeps form ts h in
    absurd (grind (arith, c.in_err-entry.was, c.in-Some.ensures.steps.takes form left has))

pub fill_array-returns-then-is_longer-clause-decodes : goal.fill_array-returns-then-is_longer-clause-decodes
fill_array-returns-then-is_longer-clause-decodes t c = λ seen keeps form ts h.
    let (left, has, joined) = c.loop-entry.invariant.left seen keeps form ts h in
    let now = first_element form left c.in-Some.entry _ _ c.in_ok-entry.was (c.in-Some.ensures.steps.takes form left has) in
    let made = ap (λ (us : Trees). array (trees_of (trees_seen seen c.loop-entry.values.items ++ elements us))) (sym now.whole) ∙ ap array joined in
    (now.first, rw (c.is_longer.ensures.kind c.if-is_longer.true) at now.stores.content, (now.others, now.left, made))

pub fill_array-returns-in_err-entry_value-clause-decodes : goal.fill_array-returns-in_err-entry_value-clause-decodes
fill_array-returns-in_err-entry_value-clause-decodes t c = λ seen keeps form ts h.
    let (left, has, joined) = c.loop-entry.invariant.left seen keeps form ts h in
    let now = first_element form left c.in-Some.entry _ _ c.in_ok-entry.was (c.in-Some.ensures.steps.takes form left has) in
    err_is _ _ _ _ c.from_residual-in_err-entry_value.ensures.1 (c.in_err-entry_value.ensures.decodes seen keeps form now.first now.stores)

pub fill_array-loop-entry-preserved : goal.fill_array-loop-entry-preserved
fill_array-loop-entry-preserved t c = record {
  room = omega (arith, c.in-Some.ensures.steps.room, c.loop-entry.invariant.room);
  left = λ seen keeps form ts h.
      let (left, has, joined) = c.loop-entry.invariant.left seen keeps form ts h in
      let now = first_element form left c.in-Some.entry _ _ c.in_ok-entry.was (c.in-Some.ensures.steps.takes form left has) in
      let same = c.in_ok-entry_value.ensures.decodes seen keeps form now.first now.stores in
      (now.others, now.left, elements_go_on seen _ _ _ left now.others _ now.first joined now.whole (rw c.in_ok-reserve.ensures.items at c.push_reserved.ensures.items) same);
}

pub fill_array-returns-clause-decodes : goal.fill_array-returns-clause-decodes
fill_array-returns-clause-decodes t c = λ seen keeps form ts h.
    let (left, has, joined) = c.loop-entry.invariant.left seen keeps form ts h in
    tree_seen-Array seen _ ∙ ap array (elements_end seen _ left _ joined (grind (arith, c.in_default.ensures.steps.takes form left has)))

-- ---- objects

pub fill_object-returns-in_err-key-clause-decodes : goal.fill_object-returns-in_err-key-clause-decodes
fill_object-returns-in_err-key-clause-decodes t c = λ seen keeps form ps h rising.
    let (left, has, joined) = c.loop-pair.invariant.left seen keeps form ps h rising in
    absurd (grind (arith, c.in_err-key.was, c.in-Some.ensures.steps.takes form left has))

pub fill_object-returns-in_err-name-clause-decodes : goal.fill_object-returns-in_err-name-clause-decodes
fill_object-returns-in_err-name-clause-decodes t c = λ seen keeps form ps h rising.
    let (left, has, joined) = c.loop-pair.invariant.left seen keeps form ps h rising in
    let now = first_member form left c.in-Some.pair _ _ c.in_ok-key.was (c.in-Some.ensures.steps.takes form left has) in
    let utf8 = first_name left _ _ _ now.whole has.are_keys in
    err_is _ _ _ _ c.from_residual-in_err-name.ensures.1 (c.in_err-name.ensures.key utf8)

pub fill_object-returns-then-is_longer-clause-decodes : goal.fill_object-returns-then-is_longer-clause-decodes
fill_object-returns-then-is_longer-clause-decodes t c = λ seen keeps form ps h rising.
    let (left, has, joined) = c.loop-pair.invariant.left seen keeps form ps h rising in
    let now = first_member form left c.in-Some.pair _ _ c.in_ok-key.was (c.in-Some.ensures.steps.takes form left has) in
    let before = members_seen seen c.loop-pair.members.entries in
    let name = c.in_ok-name.ensures.key (first_name left _ _ _ now.whole has.are_keys) in
    let next : pairs_of (before ++ (string_bytes c.in_ok-name.name, now.value) ∷ members now.others)
    ≡ pairs_of (members_seen seen c.args.members.entries ++ members ps) =
    ap (λ (key : List ℕ). pairs_of (before ++ (key, now.value) ∷ members now.others)) name
    ∙ ap (λ (qs : Pairs). pairs_of (before ++ members qs)) (sym now.whole) ∙ joined in
    (now.value, rw (c.is_longer.ensures.kind c.if-is_longer.true) at now.stores.content, (now.others, now.left, subst (λ (qs : Pairs). AreKeys (keys qs)) (sym next) rising, ap object next))

pub fill_object-returns-in_err-value-clause-decodes : goal.fill_object-returns-in_err-value-clause-decodes
fill_object-returns-in_err-value-clause-decodes t c = λ seen keeps form ps h rising.
    let (left, has, joined) = c.loop-pair.invariant.left seen keeps form ps h rising in
    let now = first_member form left c.in-Some.pair _ _ c.in_ok-key.was (c.in-Some.ensures.steps.takes form left has) in
    err_is _ _ _ _ c.from_residual-in_err-value.ensures.1 (c.in_err-value.ensures.decodes seen keeps form now.value now.stores)

pub fill_object-loop-pair-preserved : goal.fill_object-loop-pair-preserved
fill_object-loop-pair-preserved t c = record {
  room = omega (arith, c.in-Some.ensures.steps.room, c.loop-pair.invariant.room);
  left = λ seen keeps form ps h rising.
      let (left, has, joined) = c.loop-pair.invariant.left seen keeps form ps h rising in
      let now = first_member form left c.in-Some.pair _ _ c.in_ok-key.was (c.in-Some.ensures.steps.takes form left has) in
      let same = c.in_ok-value.ensures.decodes seen keeps form now.value now.stores in
      let more = members_go_on seen _ _ _ _ _ left now.others _ now.value joined now.whole rising c.in_ok-insert.ensures.entries
      (c.in_ok-name.ensures.key (first_name left _ _ _ now.whole has.are_keys)) same in
      (now.others, now.left, more);
}

pub fill_object-returns-clause-decodes : goal.fill_object-returns-clause-decodes
fill_object-returns-clause-decodes t c = λ seen keeps form ps h rising.
    let (left, has, joined) = c.loop-pair.invariant.left seen keeps form ps h rising in
    tree_seen-Object seen _ ∙ ap object (members_end seen _ left _ joined (no_member form left _ (c.in_default.ensures.steps.takes form left has)))
