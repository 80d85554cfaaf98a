use Rattle.jsonb_raw.proofs.Lemmas.{rules, arith, ◌-◌, ◌||◌, take, Bool, Some, None, true, false, ◌≡◌, refl, sym, ◌∙◌, subst, IsOkAnd, bytes_eq-Decides, list_any, keys, elements, members, keys_rise, equal_kind, pairs_above, is_part_of, each_is_matched, each_pair_is_matched, IsOneAnswer, matches, or_second, array, decoded_fits, matched_refl, elements_fit, take_one, take_no, take_zero, tail_none, tail_next, tail_along, SomeEntries-first, SomeEntries-error, SomeEntries-none, SomePairEntries-first, SomePairEntries-error, SomePairEntries-none, same_tree, IsAnswer, IsItemAnswer, none_aside, put_aside, part_holds, part_fails, aside_along, put_one_aside, one_fails}
use Rattle.jsonb_raw.proofs.ContainLemmas.{unmatched_key, matched_pair, no_entry_found, entry_found, scalar_match, matches_if_equal, no_object, scalar_told, scalars_left, scalars_decide, matched_left}
use Rattle.jsonb_raw.proofs.functions.operator.contains.+contains.Goals as goal

-- ---- items

pub item_matches-returns-in-Known-clause-answer : goal.item_matches-returns-in-Known-clause-answer
item_matches-returns-in-Known-clause-answer t c = λ form other_form x y h i.
    let l = c.loop-answer.invariant.left form other_form x y h i in
    let told = rw c.in-Known.is at (c.in_ok-answer.ensures.answer form other_form l.0 l.1 l.2 l.3) in
    told ∙ l.4

pub item_matches-loop-answer-preserved : goal.item_matches-loop-answer-preserved
item_matches-loop-answer-preserved t c = record {
  shorter = let size = rw c.in-Deferred.is at c.in_ok-answer.ensures.within in omega (arith, size.0, size.1, c.loop-answer.invariant.shorter);
  left = λ form other_form x y h i.
      let l = c.loop-answer.invariant.left form other_form x y h i in
      let m = rw c.in-Deferred.is at (c.in_ok-answer.ensures.answer form other_form l.0 l.1 l.2 l.3) in
      (m.0, m.1, m.2, m.3, m.4 ∙ l.4);
}

pub parts_match-returns-in-Array-Array-clause-answer : goal.parts_match-returns-in-Array-Array-clause-answer
parts_match-returns-in-Array-Array-clause-answer t c = λ form other_form x y stands wanted.
    let (xs, is, d) = rw c.in-Array-Array.is-0 at stands in
    let (ys, same, e) = rw c.in-Array-Array.is-1 at wanted in
    rw (is, same) (c.array_contains.ensures.answer form other_form xs ys d e)

pub parts_match-returns-in-Object-Object-clause-answer : goal.parts_match-returns-in-Object-Object-clause-answer
parts_match-returns-in-Object-Object-clause-answer t c = λ form other_form x y stands wanted.
    let (ps, is, d) = rw c.in-Object-Object.is-0 at stands in
    let (qs, same, e) = rw c.in-Object-Object.is-1 at wanted in
    rw (is, same) (c.object_contains.ensures.answer form other_form ps qs d e)

pub parts_match-returns-in-Ok-clause-answer : goal.parts_match-returns-in-Ok-clause-answer
parts_match-returns-in-Ok-clause-answer c = search (rules, matches_if_equal, no_object)

-- ---- arrays

pub array_contains-returns-in_err-all-clause-answer : goal.array_contains-returns-in_err-all-clause-answer
array_contains-returns-in_err-all-clause-answer t c = λ form other_form xs ys d e. absurd (c.in_err-all.ensures.decodes form xs d)

pub array_contains-loop-wanted-init : goal.array_contains-loop-wanted-init
array_contains-loop-wanted-init t c = record {
  tail = tail_none c.in_ok-all.all;
  table = rw c.between-table.ensures tt;
  room = search rules;
  size = tt;
  left = λ form other_form xs ys d e. record {
    trees = ys;
    left = rw c.into_iter-wanted-iterator.ensures.into_iter_gives (c.in_ok-entries.ensures.decodes other_form ys e);
    fact = (
      elements_fit ys (decoded_fits other_form c.args.others.now (array ys) (λ i. omega (arith, c.type_inv.others i)) e),
      sym (c.in_ok-scalars_matched.ensures.matched form other_form xs ys (c.in_ok-all.ensures.decodes form xs d)
          (c.in_ok-entries.ensures.decodes other_form ys e) (decoded_fits form c.args.bytes.now (array xs) (λ i. omega (arith, c.type_inv.bytes i)) d) (elements_fit ys (decoded_fits other_form c.args.others.now (array ys) (λ i. omega (arith, c.type_inv.others i)) e))) ∙ c.if-not-branch.false,
      none_aside (IsItemAnswer matches form other_form None) (each_is_matched ys (elements xs)) refl,
    );
  };
}

pub array_contains-returns-in_err-wanted-clause-answer : goal.array_contains-returns-in_err-wanted-clause-answer
array_contains-returns-in_err-wanted-clause-answer t c = λ form other_form xs ys d e.
    SomeEntries-error other_form _ _ _ _ _ c.in_err-wanted.was c.in-Some.ensures.steps (c.loop-wanted.invariant.left form other_form xs ys d e)

pub array_contains-returns-in_err-container_match-clause-answer : goal.array_contains-returns-in_err-container_match-clause-answer
array_contains-returns-in_err-container_match-clause-answer t c = λ form other_form xs ys d e.
    SomeEntries-first other_form _ _ _ _ _ c.in_ok-wanted.was c.in-Some.ensures.steps (c.loop-wanted.invariant.left form other_form xs ys d e)
    (λ first rest left stored fact. absurd (c.in_err-container_match.ensures.answer form other_form xs first (c.in_ok-all.ensures.decodes form xs d) stored))

pub array_contains-loop-wanted-preserved-in-Known-true : goal.array_contains-loop-wanted-preserved-in-Known-true
array_contains-loop-wanted-preserved-in-Known-true t c = record {
  tail = c.in_ok-container_match.ensures.tail;
  table = c.has.ensures.table;
  room = omega (arith, c.in-Some.ensures.steps.room, c.loop-wanted.invariant.room);
  size = c.loop-wanted.invariant.size;
  left = λ form other_form xs ys d e.
      SomeEntries-first other_form _ _ _ _ _ c.in_ok-wanted.was c.in-Some.ensures.steps (c.loop-wanted.invariant.left form other_form xs ys d e)
      (λ first rest left stored fact.
      let told = rw c.in-Known-true.is at (c.in_ok-container_match.ensures.answer form other_form xs first (c.in_ok-all.ensures.decodes form xs d) stored) in
      matched_left other_form _ _ first rest (elements xs) (each_is_matched ys (elements xs)) left (sym told ∙ c.in-Known-true.field-0-test) fact);
}

pub array_contains-returns-in-Known-false-clause-answer : goal.array_contains-returns-in-Known-false-clause-answer
array_contains-returns-in-Known-false-clause-answer t c = λ form other_form xs ys d e.
    SomeEntries-first other_form _ _ _ _ _ c.in_ok-wanted.was c.in-Some.ensures.steps (c.loop-wanted.invariant.left form other_form xs ys d e)
    (λ first rest left stored fact.
    let told = rw c.in-Known-false.is at (c.in_ok-container_match.ensures.answer form other_form xs first (c.in_ok-all.ensures.decodes form xs d) stored) in
    let fails : list_any (is_part_of first) (elements xs) ≡ false = sym told ∙ c.in-Known-false.field-0-test in
    part_fails _ (list_any (is_part_of first) (elements xs)) (each_is_matched rest (elements xs)) (each_is_matched ys (elements xs)) fails fact.2)

pub array_contains-loop-wanted-preserved-then-wanted-others : goal.array_contains-loop-wanted-preserved-then-wanted-others
array_contains-loop-wanted-preserved-then-wanted-others t c =
    let none : c.loop-wanted.large ≡ None = search rules in
    let size = rw c.in_ok-wanted.was at c.in-Some.ensures.steps.size in
    let within = rw c.in-Deferred.is at c.in_ok-container_match.ensures.within in
    record {
      tail = c.in_ok-container_match.ensures.tail;
      table = c.has.ensures.table;
      room = omega (arith, c.in-Some.ensures.steps.room, c.loop-wanted.invariant.room);
      size = (omega (arith, within.0, c.in_ok-all.ensures.room), omega (arith, within.1, size, c.loop-wanted.invariant.room));
      left = λ form other_form xs ys d e.
          SomeEntries-first other_form _ _ _ _ _ c.in_ok-wanted.was c.in-Some.ensures.steps
          (rw none at (c.loop-wanted.invariant.left form other_form xs ys d e))
          (λ first rest left stored fact.
          let m = rw c.in-Deferred.is at (c.in_ok-container_match.ensures.answer form other_form xs first (c.in_ok-all.ensures.decodes form xs d) stored) in
          record {
            trees = rest;
            left = left;
            fact = (fact.0.1, scalars_left first rest (elements xs) fact.1, search (put_aside, fact.2));
          });
    }

pub array_contains-returns-in_err-item_matches-in-Deferred-clause-answer : goal.array_contains-returns-in_err-item_matches-in-Deferred-clause-answer
array_contains-returns-in_err-item_matches-in-Deferred-clause-answer t c = λ form other_form xs ys d e.
    SomeEntries-first other_form _ _ _ _ _ c.in_ok-wanted.was c.in-Some.ensures.steps (c.loop-wanted.invariant.left form other_form xs ys d e)
    (λ first rest left stored fact.
    let m = rw c.in-Deferred.is at (c.in_ok-container_match.ensures.answer form other_form xs first (c.in_ok-all.ensures.decodes form xs d) stored) in
    absurd (c.in_err-item_matches-in-Deferred.ensures.answer form other_form m.0 m.1 m.2 m.3))

pub array_contains-returns-then-not-branch-clause-answer : goal.array_contains-returns-then-not-branch-clause-answer
array_contains-returns-then-not-branch-clause-answer t c = λ form other_form xs ys d e.
    let told = c.in_ok-scalars_matched.ensures.matched form other_form xs ys (c.in_ok-all.ensures.decodes form xs d)
    (c.in_ok-entries.ensures.decodes other_form ys e) (decoded_fits form c.args.bytes.now (array xs) (λ i. omega (arith, c.type_inv.bytes i)) d) (elements_fit ys (decoded_fits other_form c.args.others.now (array ys) (λ i. omega (arith, c.type_inv.others i)) e)) in
    sym (scalars_decide ys (elements xs) (sym told ∙ c.if-not-branch.true))

pub array_contains-returns-then-not-branch-2-clause-answer : goal.array_contains-returns-then-not-branch-2-clause-answer
array_contains-returns-then-not-branch-2-clause-answer t c = λ form other_form xs ys d e.
    SomeEntries-first other_form _ _ _ _ _ c.in_ok-wanted.was c.in-Some.ensures.steps (c.loop-wanted.invariant.left form other_form xs ys d e)
    (λ first rest left stored fact.
    let m = rw c.in-Deferred.is at (c.in_ok-container_match.ensures.answer form other_form xs first (c.in_ok-all.ensures.decodes form xs d) stored) in
    let fails : list_any (is_part_of first) (elements xs) ≡ false = sym m.4 ∙ sym (c.in_ok-item_matches-in-Deferred.ensures.answer form other_form m.0 m.1 m.2 m.3)
    ∙ c.if-not-branch-2.true in
    part_fails _ (list_any (is_part_of first) (elements xs)) (each_is_matched rest (elements xs)) (each_is_matched ys (elements xs)) fails fact.2)

pub array_contains-loop-wanted-preserved : goal.array_contains-loop-wanted-preserved
array_contains-loop-wanted-preserved t c = record {
  tail = c.in_ok-container_match.ensures.tail;
  table = c.has.ensures.table;
  room = omega (arith, c.in-Some.ensures.steps.room, c.loop-wanted.invariant.room);
  size = c.loop-wanted.invariant.size;
  left = λ form other_form xs ys d e.
      SomeEntries-first other_form _ _ _ _ _ c.in_ok-wanted.was c.in-Some.ensures.steps (c.loop-wanted.invariant.left form other_form xs ys d e)
      (λ first rest left stored fact.
      let m = rw c.in-Deferred.is at (c.in_ok-container_match.ensures.answer form other_form xs first (c.in_ok-all.ensures.decodes form xs d) stored) in
      matched_left other_form _ _ first rest (elements xs) (each_is_matched ys (elements xs)) left
      (sym m.4 ∙ sym (c.in_ok-item_matches-in-Deferred.ensures.answer form other_form m.0 m.1 m.2 m.3) ∙ c.if-not-branch-2.false) fact);
}

pub array_contains-returns-in-Some-large-clause-answer : goal.array_contains-returns-in-Some-large-clause-answer
array_contains-returns-in-Some-large-clause-answer t c = λ form other_form xs ys d e.
    let a = rw c.in-Some-large.is at (SomeEntries-none other_form _ _ _ c.in-None.ensures.steps (c.loop-wanted.invariant.left form other_form xs ys d e)).2 in
    (a.is.0, a.is.1, a.is.2, a.is.3, a.is.4 ∙ a.fact)

pub array_contains-returns-clause-answer : goal.array_contains-returns-clause-answer
array_contains-returns-clause-answer t c = λ form other_form xs ys d e.
    let a = rw c.in-None-large.is at (SomeEntries-none other_form _ _ _ c.in-None.ensures.steps (c.loop-wanted.invariant.left form other_form xs ys d e)).2 in
    sym a.is ∙ a.fact

-- a scalar was found
pub array_contains-loop-wanted-preserved-then-not-is_container : goal.array_contains-loop-wanted-preserved-then-not-is_container
array_contains-loop-wanted-preserved-then-not-is_container t c = record {
  tail = c.loop-wanted.invariant.tail;
  table = c.loop-wanted.invariant.table;
  room = omega (arith, c.in-Some.ensures.steps.room, c.loop-wanted.invariant.room);
  size = c.loop-wanted.invariant.size;
  left = λ form other_form xs ys d e.
      SomeEntries-first other_form _ _ _ _ _ c.in_ok-wanted.was c.in-Some.ensures.steps (c.loop-wanted.invariant.left form other_form xs ys d e)
      (λ first rest left stored fact.
      let scalar = scalar_told other_form _ first stored (sym c.is_container.ensures ∙ c.if-not-is_container.true) in
      matched_left other_form _ _ first rest (elements xs) (each_is_matched ys (elements xs)) left (grind (arith, fact.1, scalar)) fact);
}

pub array_contains-returns-in_err-scalars_matched-clause-answer : goal.array_contains-returns-in_err-scalars_matched-clause-answer
array_contains-returns-in_err-scalars_matched-clause-answer t c = λ form other_form xs ys d e.
    absurd (c.in_err-scalars_matched.ensures.matched form other_form xs ys (c.in_ok-all.ensures.decodes form xs d)
    (c.in_ok-entries.ensures.decodes other_form ys e) (decoded_fits form c.args.bytes.now (array xs) (λ i. omega (arith, c.type_inv.bytes i)) d) (elements_fit ys (decoded_fits other_form c.args.others.now (array ys) (λ i. omega (arith, c.type_inv.others i)) e)))

-- one that equals it was found
pub array_contains-loop-wanted-preserved-then-has : goal.array_contains-loop-wanted-preserved-then-has
array_contains-loop-wanted-preserved-then-has t c = record {
  tail = c.loop-wanted.invariant.tail;
  table = c.has.ensures.table;
  room = omega (arith, c.in-Some.ensures.steps.room, c.loop-wanted.invariant.room);
  size = c.loop-wanted.invariant.size;
  left = λ form other_form xs ys d e.
      SomeEntries-first other_form _ _ _ _ _ c.in_ok-wanted.was c.in-Some.ensures.steps (c.loop-wanted.invariant.left form other_form xs ys d e)
      (λ first rest left stored fact.
      matched_left other_form _ _ first rest (elements xs) (each_is_matched ys (elements xs)) left
      (c.has.ensures.told form other_form xs first (c.in_ok-all.ensures.decodes form xs d) stored
      (decoded_fits form c.args.bytes.now (array xs) (λ i. omega (arith, c.type_inv.bytes i)) d) fact.0.0 c.if-has.true) fact);
}

-- ---- entries

pub container_match-returns-in-Some-clause-answer : goal.container_match-returns-in-Some-clause-answer
container_match-returns-in-Some-clause-answer t c = λ form other_form xs y h k.
    let q = c.parts.ensures.parts form xs h in
    let found = rw c.in-Some.is at (c.in_ok-left.ensures.answer form other_form q.0 y false q.2 k refl) in
    let whole = q.4 (is_part_of y) in
    sym (or_second _ _ found) ∙ whole

pub container_match-returns-in-Some-clause-tail : goal.container_match-returns-in-Some-clause-tail
container_match-returns-in-Some-clause-tail c = search (rules, tail_along)

pub container_match-returns-in_err-left-2-clause-answer : goal.container_match-returns-in_err-left-2-clause-answer
container_match-returns-in_err-left-2-clause-answer t c = λ form other_form xs y h k.
    let q = c.parts.ensures.parts form xs h in
    let first = rw c.in_default.is at (c.in_ok-left.ensures.answer form other_form q.0 y false q.2 k refl) in
    absurd (c.in_err-left-2.ensures.answer form other_form q.1 y _ q.3 k first)

pub container_match-returns-in-Some-2-clause-answer : goal.container_match-returns-in-Some-2-clause-answer
container_match-returns-in-Some-2-clause-answer t c = λ form other_form xs y h k.
    let q = c.parts.ensures.parts form xs h in
    let first = rw c.in_default.is at (c.in_ok-left.ensures.answer form other_form q.0 y false q.2 k refl) in
    let second = rw c.in-Some-2.is at (c.in_ok-left-2.ensures.answer form other_form q.1 y _ q.3 k first) in
    sym second ∙ q.4 (is_part_of y)

pub container_match-returns-in-Some-2-clause-tail : goal.container_match-returns-in-Some-2-clause-tail
container_match-returns-in-Some-2-clause-tail c = search (rules, tail_along)

pub container_match-returns-in_err-item-in-Some-large-clause-answer : goal.container_match-returns-in_err-item-in-Some-large-clause-answer
container_match-returns-in_err-item-in-Some-large-clause-answer t c = λ form other_form xs y h k.
    let q = c.parts.ensures.parts form xs h in
    let first = rw c.in_default.is at (c.in_ok-left.ensures.answer form other_form q.0 y false q.2 k refl) in
    let second = rw (c.in_default-2.is, c.in-Some-large.is) at (c.in_ok-left-2.ensures.answer form other_form q.1 y _ q.3 k first) in
    absurd (c.in_err-item-in-Some-large.ensures.decodes form second.0 second.1.content)

pub container_match-returns-in_ok-item-in-Some-large-2-clause-answer : goal.container_match-returns-in_ok-item-in-Some-large-2-clause-answer
container_match-returns-in_ok-item-in-Some-large-2-clause-answer t c = λ form other_form xs y h k.
    let q = c.parts.ensures.parts form xs h in
    let first = rw c.in_default.is at (c.in_ok-left.ensures.answer form other_form q.0 y false q.2 k refl) in
    let second = rw (c.in_default-2.is, c.in-Some-large.is) at (c.in_ok-left-2.ensures.answer form other_form q.1 y _ q.3 k first) in (
      second.0,
      y,
      c.in_ok-item-in-Some-large.ensures.decodes form second.0 second.1.content,
      c.in_ok-item-in-Some-large-2.ensures.decodes other_form y k.content,
      second.2 ∙ q.4 (is_part_of y),
    )

pub container_match-returns-in-None-clause-answer : goal.container_match-returns-in-None-clause-answer
container_match-returns-in-None-clause-answer t c = λ form other_form xs y h k.
    let q = c.parts.ensures.parts form xs h in
    let first = rw c.in_default.is at (c.in_ok-left.ensures.answer form other_form q.0 y false q.2 k refl) in
    let second = rw (c.in_default-2.is, c.in-None.is) at (c.in_ok-left-2.ensures.answer form other_form q.1 y _ q.3 k first) in
    sym second ∙ q.4 (is_part_of y)

pub find_match-loop-more-init : goal.find_match-loop-more-init
find_match-loop-more-init c = search (rules, tail_none)

pub find_match-returns-in_err-entry-clause-answer : goal.find_match-returns-in_err-entry-clause-answer
find_match-returns-in_err-entry-clause-answer t c = grind (arith, SomeEntries-error)

pub find_match-returns-in_err-entry_matches-clause-answer : goal.find_match-returns-in_err-entry_matches-clause-answer
find_match-returns-in_err-entry_matches-clause-answer t c = λ form other_form xs y b h k is.
    SomeEntries-first form _ _ _ _ _ c.in_ok-entry.was c.in-Some.ensures.steps (c.loop-more.invariant.left form other_form xs y b h k is)
    (λ first rest left stored fact. absurd (c.in_err-entry_matches.ensures.answer form other_form first y stored k))

pub find_match-returns-in_default-clause-answer : goal.find_match-returns-in_default-clause-answer
find_match-returns-in_default-clause-answer t c = λ form other_form xs y b h k is.
    let a = rw take_no at (SomeEntries-none form _ _ _ c.in_default.ensures.steps (c.loop-more.invariant.left form other_form xs y b h k is)) in
    rw a.fact at a.is

pub find_match-loop-more-preserved-then-is_container_longer_than : goal.find_match-loop-more-preserved-then-is_container_longer_than
find_match-loop-more-preserved-then-is_container_longer_than t c =
    let none : c.loop-more.large ≡ None = search rules in
    let size = rw c.in_ok-entry.was at c.in-Some.ensures.steps.size in
    record {
      tail = tail_next _ _ _ _ _ c.in_ok-entry.was c.in-Some.ensures.steps c.loop-more.invariant.tail;
      room = λ most few large. omega (arith, size, few, c.loop-more.invariant.tail.room);
      left = λ form other_form xs y b h k is.
          SomeEntries-first form _ _ _ _ _ c.in_ok-entry.was c.in-Some.ensures.steps
          (rw none at (c.loop-more.invariant.left form other_form xs y b h k is))
          (λ first rest left stored fact. record {
            trees = rest;
            left = left;
            fact = put_one_aside (IsOneAnswer (is_part_of y) form None) (IsOneAnswer (is_part_of y) form (Some c.in_ok-entry.entry)) (is_part_of y first)
                (list_any (is_part_of y) (take (c.loop-more.more - 1) (elements rest)))
                (list_any (is_part_of y) (take c.args.part.count (elements xs)) || b) (λ b i. i) (first, stored, refl)
                (rw (take_one c.loop-more.more first (elements rest) c.loop-more-test.true) at fact);
          });
    }

pub find_match-returns-then-branch-clause-answer : goal.find_match-returns-then-branch-clause-answer
find_match-returns-then-branch-clause-answer t c = λ form other_form xs y b h k is.
    SomeEntries-first form _ _ _ _ _ c.in_ok-entry.was c.in-Some.ensures.steps (c.loop-more.invariant.left form other_form xs y b h k is)
    (λ first rest left stored fact.
    sym
    (rw (sym (c.in_ok-entry_matches.ensures.answer form other_form first y stored k)
    ∙ c.if-branch.true) at (rw (take_one c.loop-more.more first (elements rest) c.loop-more-test.true) at fact).fact))

pub find_match-returns-then-branch-clause-tail : goal.find_match-returns-then-branch-clause-tail
find_match-returns-then-branch-clause-tail t c = tail_next _ _ _ _ _ c.in_ok-entry.was c.in-Some.ensures.steps c.loop-more.invariant.tail

pub find_match-loop-more-preserved : goal.find_match-loop-more-preserved
find_match-loop-more-preserved t c = record {
  tail = tail_next _ _ _ _ _ c.in_ok-entry.was c.in-Some.ensures.steps c.loop-more.invariant.tail;
  room = c.loop-more.invariant.room;
  left = λ form other_form xs y b h k is.
      SomeEntries-first form _ _ _ _ _ c.in_ok-entry.was c.in-Some.ensures.steps (c.loop-more.invariant.left form other_form xs y b h k is)
      (λ first rest left stored fact. record {
        trees = rest;
        left = left;
        fact = one_fails _ (is_part_of y first) (list_any (is_part_of y) (take (c.loop-more.more - 1) (elements rest)))
            (list_any (is_part_of y) (take c.args.part.count (elements xs)) || b)
            (sym (c.in_ok-entry_matches.ensures.answer form other_form first y stored k) ∙ c.if-branch.false)
            (rw (take_one c.loop-more.more first (elements rest) c.loop-more-test.true) at fact);
      });
}

pub find_match-returns-clause-answer : goal.find_match-returns-clause-answer
find_match-returns-clause-answer t c = λ form other_form xs y b h k is.
    let some = c.loop-more.invariant.left form other_form xs y b h k is in
    let a = rw (take_zero c.loop-more.more (elements some.trees) c.loop-more-test.false) at some.fact in
    rw a.fact at a.is

pub entry_matches-returns-then-not-is_container-clause-answer : goal.entry_matches-returns-then-not-is_container-clause-answer
entry_matches-returns-then-not-is_container-clause-answer t c = λ form other_form x y h k.
    let same = scalar_match other_form c.args.wanted.now y k (sym c.is_container.ensures ∙ c.if-not-is_container.true) x in
    subst (λ (a : Bool). IsOkAnd c.stored_equal.result (λ b. b ≡ a)) same (c.stored_equal.ensures.equal form other_form x y h k)

pub entry_matches-returns-then-eq-clause-answer : goal.entry_matches-returns-then-eq-clause-answer
entry_matches-returns-then-eq-clause-answer t c = λ form other_form x y h k.
    let one : x ≡ y = same_tree form other_form _ _ x y h k (equal_kind _ c.args.entry.now.kind c.args.wanted.now.kind c.ne.ensures c.if-ne.false)
    ((bytes_eq-Decides _ _).0 (sym c.eq.ensures ∙ c.if-eq.true)) in
    rw one (sym (matched_refl y))

-- ---- objects

pub object_contains-returns-in_err-left-clause-answer : goal.object_contains-returns-in_err-left-clause-answer
object_contains-returns-in_err-left-clause-answer t c = λ form other_form ps qs d e. absurd (c.in_err-left.ensures.decodes form ps d)

pub object_contains-returns-in_err-pair-items-clause-answer : goal.object_contains-returns-in_err-pair-items-clause-answer
object_contains-returns-in_err-pair-items-clause-answer t c = λ form other_form ps qs d e. absurd (c.in_err-pair-items.ensures.decodes other_form qs e)

pub object_contains-loop-pair-init : goal.object_contains-loop-pair-init
object_contains-loop-pair-init c = search (rules, keys_rise, none_aside, IsAnswer)

pub object_contains-returns-in_err-key-clause-answer : goal.object_contains-returns-in_err-key-clause-answer
object_contains-returns-in_err-key-clause-answer t c = λ form other_form ps qs d e.
    SomePairEntries-error other_form _ _ _ _ _ c.in_err-key.was c.in-Some.ensures.steps (c.loop-pair.invariant.left form other_form ps qs d e)

pub object_contains-returns-in_err-entry-clause-answer : goal.object_contains-returns-in_err-entry-clause-answer
object_contains-returns-in_err-entry-clause-answer t c = λ form other_form ps qs d e.
    SomePairEntries-first other_form _ _ _ _ _ c.in_ok-key.was c.in-Some.ensures.steps (c.loop-pair.invariant.left form other_form ps qs d e)
    (λ value rest left stored fact. absurd (c.in_err-entry.ensures.value form fact.1.pairs fact.1.left))

pub object_contains-returns-in_default-clause-answer : goal.object_contains-returns-in_default-clause-answer
object_contains-returns-in_default-clause-answer t c = λ form other_form ps qs d e.
    SomePairEntries-first other_form _ _ _ _ _ c.in_ok-key.was c.in-Some.ensures.steps (c.loop-pair.invariant.left form other_form ps qs d e)
    (λ value rest left stored fact.
    let some = fact.1 in
    let none = no_entry_found form _ (rw c.in_default.is at (c.in_ok-entry.ensures.value form some.pairs some.left)) in
    (rw (unmatched_key c.in_ok-key.key.now value rest some.pairs (keys_rise (keys some.pairs) some.left.are_keys) none) at some.fact.fact))

pub object_contains-loop-pair-preserved-then-is_container_longer_than-2 : goal.object_contains-loop-pair-preserved-then-is_container_longer_than-2
object_contains-loop-pair-preserved-then-is_container_longer_than-2 t c =
    let none : c.loop-pair.large ≡ None = search rules in
    let size = rw c.in-Some-2.is at c.in_ok-entry.ensures.size in
    let wanted_size = rw c.in_ok-key.was at c.in-Some.ensures.steps.size in
    record {
      room = omega (arith, c.in-Some.ensures.steps.room, c.loop-pair.invariant.room);
      room_left = omega (arith, c.advance_to_key.ensures.room, c.loop-pair.invariant.room_left);
      size = (omega (arith, size, c.loop-pair.invariant.room_left), omega (arith, wanted_size, c.loop-pair.invariant.room));
      left = λ form other_form ps qs d e.
          SomePairEntries-first other_form _ _ _ _ _ c.in_ok-key.was c.in-Some.ensures.steps (rw none at (c.loop-pair.invariant.left form other_form ps qs d e))
          (λ value rest left stored fact.
          let some = fact.1 in
          let found = entry_found form _ _ (rw c.in-Some-2.is at (c.in_ok-entry.ensures.value form some.pairs some.left)) in
          let step = matched_pair c.in_ok-key.key.now value rest some.pairs (keys_rise (keys some.pairs) some.left.are_keys) found.0 found.1 fact.0 in
          record {
            pairs = rest;
            left = left;
            fact = (
              fact.0.1,
              record {
                pairs = pairs_above c.in_ok-key.key.now some.pairs;
                left = rw c.in-Some-2.is at (c.in_ok-entry.ensures.above form some.pairs some.left);
                fact = put_aside (IsAnswer matches form other_form None) (IsAnswer matches form other_form (Some (c.in-Some-2.entry, c.in_ok-key.wanted)))
                    (is_part_of value found.0) (each_pair_is_matched rest (members (pairs_above c.in_ok-key.key.now some.pairs)))
                    (each_pair_is_matched qs (members ps)) (λ b h. h) (found.0, value, found.2, stored, refl) (aside_along _ _ _ _ step some.fact);
              },
            );
          });
    }

pub object_contains-returns-in_err-entry_matches-clause-answer : goal.object_contains-returns-in_err-entry_matches-clause-answer
object_contains-returns-in_err-entry_matches-clause-answer t c = λ form other_form ps qs d e.
    SomePairEntries-first other_form _ _ _ _ _ c.in_ok-key.was c.in-Some.ensures.steps (c.loop-pair.invariant.left form other_form ps qs d e)
    (λ value rest left stored fact.
    let some = fact.1 in
    let found = entry_found form _ _ (rw c.in-Some-2.is at (c.in_ok-entry.ensures.value form some.pairs some.left)) in
    absurd (c.in_err-entry_matches.ensures.answer form other_form found.0 value found.2 stored))

pub object_contains-returns-then-not-branch-clause-answer : goal.object_contains-returns-then-not-branch-clause-answer
object_contains-returns-then-not-branch-clause-answer t c = λ form other_form ps qs d e.
    SomePairEntries-first other_form _ _ _ _ _ c.in_ok-key.was c.in-Some.ensures.steps (c.loop-pair.invariant.left form other_form ps qs d e)
    (λ value rest left stored fact.
    let some = fact.1 in
    let found = entry_found form _ _ (rw c.in-Some-2.is at (c.in_ok-entry.ensures.value form some.pairs some.left)) in
    let step = matched_pair c.in_ok-key.key.now value rest some.pairs (keys_rise (keys some.pairs) some.left.are_keys) found.0 found.1 fact.0 in
    let fails : is_part_of value found.0 ≡ false = grind arith in
    part_fails _ (is_part_of value found.0) (each_pair_is_matched rest (members (pairs_above c.in_ok-key.key.now some.pairs)))
    (each_pair_is_matched qs (members ps)) fails (aside_along _ _ _ _ step some.fact))

pub object_contains-loop-pair-preserved : goal.object_contains-loop-pair-preserved
object_contains-loop-pair-preserved t c = record {
  room = omega (arith, c.in-Some.ensures.steps.room, c.loop-pair.invariant.room);
  room_left = omega (arith, c.advance_to_key.ensures.room, c.loop-pair.invariant.room_left);
  size = c.loop-pair.invariant.size;
  left = λ form other_form ps qs d e.
      SomePairEntries-first other_form _ _ _ _ _ c.in_ok-key.was c.in-Some.ensures.steps (c.loop-pair.invariant.left form other_form ps qs d e)
      (λ value rest left stored fact.
      let some = fact.1 in
      let found = entry_found form _ _ (rw c.in-Some-2.is at (c.in_ok-entry.ensures.value form some.pairs some.left)) in
      let step = matched_pair c.in_ok-key.key.now value rest some.pairs (keys_rise (keys some.pairs) some.left.are_keys) found.0 found.1 fact.0 in
      let holds : is_part_of value found.0 ≡ true = grind arith in
      record {
        pairs = rest;
        left = left;
        fact = (
          fact.0.1,
          record {
            pairs = pairs_above c.in_ok-key.key.now some.pairs;
            left = rw c.in-Some-2.is at (c.in_ok-entry.ensures.above form some.pairs some.left);
            fact = part_holds _ (is_part_of value found.0) (each_pair_is_matched rest (members (pairs_above c.in_ok-key.key.now some.pairs)))
                (each_pair_is_matched qs (members ps)) holds (aside_along _ _ _ _ step some.fact);
          },
        );
      });
}

pub object_contains-returns-in_err-item-in-Some-large-clause-answer : goal.object_contains-returns-in_err-item-in-Some-large-clause-answer
object_contains-returns-in_err-item-in-Some-large-clause-answer t c = λ form other_form ps qs d e.
    let a = rw c.in-Some-large.is at
    (SomePairEntries-none other_form _ _ _ c.in-None.ensures.steps (c.loop-pair.invariant.left form other_form ps qs d e)).1.fact in
    absurd (c.in_err-item-in-Some-large.ensures.decodes form a.is.0 a.is.2.content)

pub object_contains-returns-in_err-item-in-Some-large-2-clause-answer : goal.object_contains-returns-in_err-item-in-Some-large-2-clause-answer
object_contains-returns-in_err-item-in-Some-large-2-clause-answer t c = λ form other_form ps qs d e.
    let a = rw c.in-Some-large.is at
    (SomePairEntries-none other_form _ _ _ c.in-None.ensures.steps (c.loop-pair.invariant.left form other_form ps qs d e)).1.fact in
    absurd (c.in_err-item-in-Some-large-2.ensures.decodes other_form a.is.1 a.is.3.content)

pub object_contains-returns-in_ok-item-in-Some-large-2-clause-answer : goal.object_contains-returns-in_ok-item-in-Some-large-2-clause-answer
object_contains-returns-in_ok-item-in-Some-large-2-clause-answer t c = λ form other_form ps qs d e.
    let a = rw c.in-Some-large.is at
    (SomePairEntries-none other_form _ _ _ c.in-None.ensures.steps (c.loop-pair.invariant.left form other_form ps qs d e)).1.fact in (
      a.is.0,
      a.is.1,
      c.in_ok-item-in-Some-large.ensures.decodes form a.is.0 a.is.2.content,
      c.in_ok-item-in-Some-large-2.ensures.decodes other_form a.is.1 a.is.3.content,
      a.is.4 ∙ a.fact,
    )

pub object_contains-returns-in-None-large-clause-answer : goal.object_contains-returns-in-None-large-clause-answer
object_contains-returns-in-None-large-clause-answer t c = λ form other_form ps qs d e.
    let a = rw c.in-None-large.is at
    (SomePairEntries-none other_form _ _ _ c.in-None.ensures.steps (c.loop-pair.invariant.left form other_form ps qs d e)).1.fact in
    sym a.is ∙ a.fact
