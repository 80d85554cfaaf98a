use Rattle.jsonb_raw.proofs.Common.{◌≡◌, Bool, None, true, false, arith, rules, sym, subst, ◌∙◌, IsOkAnd, keys, values, is_equal, are_equal, pairs_are_equal, key_trees, Decides}
use Rattle.jsonb_raw.proofs.EntriesLeft.{SomeEntries-first, SomeEntries-error, SomeEntries-none}
use Rattle.jsonb_raw.proofs.EntryEquals.{Aside, IsAnswer, first_falls, decided_along, put_aside, part_holds, part_fails, rest_fails, entries_ended, equal_by_parts}
use Rattle.jsonb_raw.proofs.equal_items.+equal.Goals as goal

-- ---- entries

pub entries_equal-returns-in_err-entry-clause-equal : goal.entries_equal-returns-in_err-entry-clause-equal
entries_equal-returns-in_err-entry-clause-equal t c = λ form other_form ts us d e.
    SomeEntries-error form _ _ _ _ _ c.in_err-entry.was c.in-Some.ensures.steps (c.loop-entry.invariant.left form other_form ts us d e)

pub entries_equal-returns-in_default-clause-equal : goal.entries_equal-returns-in_default-clause-equal
entries_equal-returns-in_default-clause-equal t c = λ form other_form ts us d e.
    SomeEntries-first form _ _ _ _ _ c.in_ok-entry.was c.in-Some.ensures.steps (c.loop-entry.invariant.left form other_form ts us d e)
    (λ first rest left stored fact. rest_fails _ _ (SomeEntries-none other_form _ _ _ c.in_default.ensures.steps fact))

pub entries_equal-returns-in_err-other-clause-equal : goal.entries_equal-returns-in_err-other-clause-equal
entries_equal-returns-in_err-other-clause-equal t c = λ form other_form ts us d e.
    SomeEntries-first form _ _ _ _ _ c.in_ok-entry.was c.in-Some.ensures.steps (c.loop-entry.invariant.left form other_form ts us d e)
    (λ first rest left stored fact. SomeEntries-error other_form _ _ _ _ _ c.in_err-other.was c.in-Some-next.ensures.steps fact)

pub entries_equal-loop-entry-preserved-then-is_container_longer_than : goal.entries_equal-loop-entry-preserved-then-is_container_longer_than
entries_equal-loop-entry-preserved-then-is_container_longer_than t c =
    let none : c.loop-entry.large ≡ None = search rules in
    let size = rw c.in_ok-entry.was at c.in-Some.ensures.steps.size in
    record {
      room = omega (arith, c.in-Some.ensures.steps.room, c.loop-entry.invariant.room);
      size = omega (arith, size, c.loop-entry.invariant.room);
      left = λ form other_form ts us d e.
          SomeEntries-first form _ _ _ _ _ c.in_ok-entry.was c.in-Some.ensures.steps (rw none at (c.loop-entry.invariant.left form other_form ts us d e))
          (λ first rest left stored fact.
          SomeEntries-first other_form _ _ _ _ _ c.in_ok-other.was c.in-Some-next.ensures.steps fact
          (λ second others right means both. record {
            trees = rest;
            left = left;
            fact = record {
              trees = others;
              left = right;
              fact = search put_aside;
            };
          }));
    }

pub entries_equal-returns-in_err-stored_equal-clause-equal : goal.entries_equal-returns-in_err-stored_equal-clause-equal
entries_equal-returns-in_err-stored_equal-clause-equal t c = λ form other_form ts us d e.
    SomeEntries-first form _ _ _ _ _ c.in_ok-entry.was c.in-Some.ensures.steps (c.loop-entry.invariant.left form other_form ts us d e)
    (λ first rest left stored fact.
    SomeEntries-first other_form _ _ _ _ _ c.in_ok-other.was c.in-Some-next.ensures.steps fact
    (λ second others right means both. absurd (c.in_err-stored_equal.ensures.equal form other_form first second stored means)))

pub entries_equal-returns-then-not-branch-clause-equal : goal.entries_equal-returns-then-not-branch-clause-equal
entries_equal-returns-then-not-branch-clause-equal t c = λ form other_form ts us d e.
    SomeEntries-first form _ _ _ _ _ c.in_ok-entry.was c.in-Some.ensures.steps (c.loop-entry.invariant.left form other_form ts us d e)
    (λ first rest left stored fact.
    SomeEntries-first other_form _ _ _ _ _ c.in_ok-other.was c.in-Some-next.ensures.steps fact
    (λ second others right means both.
    let fails : is_equal first second ≡ false = sym (c.in_ok-stored_equal.ensures.equal form other_form first second stored means) ∙ c.if-not-branch.true in
    part_fails _ (is_equal first second) (are_equal rest others) (are_equal ts us) fails both))

pub entries_equal-loop-entry-preserved : goal.entries_equal-loop-entry-preserved
entries_equal-loop-entry-preserved t c = record {
  room = omega (arith, c.in-Some.ensures.steps.room, c.loop-entry.invariant.room);
  size = c.loop-entry.invariant.size;
  left = λ form other_form ts us d e.
      SomeEntries-first form _ _ _ _ _ c.in_ok-entry.was c.in-Some.ensures.steps (c.loop-entry.invariant.left form other_form ts us d e)
      (λ first rest left stored fact.
      SomeEntries-first other_form _ _ _ _ _ c.in_ok-other.was c.in-Some-next.ensures.steps fact
      (λ second others right means both.
      let holds : is_equal first second ≡ true = sym (c.in_ok-stored_equal.ensures.equal form other_form first second stored means) ∙ c.if-not-branch.false in
      record {
        trees = rest;
        left = left;
        fact = record { trees = others; left = right; fact = part_holds _ (is_equal first second) (are_equal rest others) (are_equal ts us) holds both };
      }));
}

pub entries_equal-returns-then-is_some-clause-equal : goal.entries_equal-returns-then-is_some-clause-equal
entries_equal-returns-then-is_some-clause-equal t c = λ form other_form ts us d e.
    let s = SomeEntries-none form _ _ _ c.in-None.ensures.steps (c.loop-entry.invariant.left form other_form ts us d e) in
    rest_fails _ _ (entries_ended other_form _ _ _ false (λ (b : Bool). Aside (IsAnswer is_equal form other_form c.loop-entry.large) b (are_equal ts us))
    (sym c.is_some.ensures ∙ c.if-is_some.true) c.next-2.ensures.steps s)

pub entries_equal-returns-in_default-large-clause-equal : goal.entries_equal-returns-in_default-large-clause-equal
entries_equal-returns-in_default-large-clause-equal t c = λ form other_form ts us d e.
    let s = SomeEntries-none form _ _ _ c.in-None.ensures.steps (c.loop-entry.invariant.left form other_form ts us d e) in
    let a = rw c.in_default-large.is at
    (entries_ended other_form _ _ _ true (λ (b : Bool). Aside (IsAnswer is_equal form other_form c.loop-entry.large) b (are_equal ts us))
    (sym c.is_some.ensures ∙ c.if-is_some.false) c.next-2.ensures.steps s) in
    sym a.is ∙ a.fact

pub entries_equal-returns-in_err-item-clause-equal : goal.entries_equal-returns-in_err-item-clause-equal
entries_equal-returns-in_err-item-clause-equal t c = λ form other_form ts us d e.
    let s = SomeEntries-none form _ _ _ c.in-None.ensures.steps (c.loop-entry.invariant.left form other_form ts us d e) in
    let a = rw c.in-Some-large.is at
    (entries_ended other_form _ _ _ true (λ (b : Bool). Aside (IsAnswer is_equal form other_form c.loop-entry.large) b (are_equal ts us))
    (sym c.is_some.ensures ∙ c.if-is_some.false) c.next-2.ensures.steps s) in
    absurd (c.in_err-item.ensures.decodes form a.is.0 a.is.2.content)

pub entries_equal-returns-in_err-item-2-clause-equal : goal.entries_equal-returns-in_err-item-2-clause-equal
entries_equal-returns-in_err-item-2-clause-equal t c = λ form other_form ts us d e.
    let s = SomeEntries-none form _ _ _ c.in-None.ensures.steps (c.loop-entry.invariant.left form other_form ts us d e) in
    let a = rw c.in-Some-large.is at
    (entries_ended other_form _ _ _ true (λ (b : Bool). Aside (IsAnswer is_equal form other_form c.loop-entry.large) b (are_equal ts us))
    (sym c.is_some.ensures ∙ c.if-is_some.false) c.next-2.ensures.steps s) in
    absurd (c.in_err-item-2.ensures.decodes other_form a.is.1 a.is.3.content)

pub entries_equal-returns-clause-equal : goal.entries_equal-returns-clause-equal
entries_equal-returns-clause-equal t c = λ form other_form ts us d e.
    let s = SomeEntries-none form _ _ _ c.in-None.ensures.steps (c.loop-entry.invariant.left form other_form ts us d e) in
    let a = rw c.in-Some-large.is at
    (entries_ended other_form _ _ _ true (λ (b : Bool). Aside (IsAnswer is_equal form other_form c.loop-entry.large) b (are_equal ts us))
    (sym c.is_some.ensures ∙ c.if-is_some.false) c.next-2.ensures.steps s) in
    (a.is.0, a.is.1, c.in_ok-item.ensures.decodes form a.is.0 a.is.2.content, c.in_ok-item-2.ensures.decodes other_form a.is.1 a.is.3.content, a.is.4 ∙ a.fact)

-- ---- items

pub items_equal-returns-in-Known-clause-equal : goal.items_equal-returns-in-Known-clause-equal
items_equal-returns-in-Known-clause-equal t c = λ form other_form s u h i. rw c.in-Known.is at (c.loop-left.invariant.left form other_form s u h i)

pub items_equal-returns-in_err-left-in-Deferred-clause-equal : goal.items_equal-returns-in_err-left-in-Deferred-clause-equal
items_equal-returns-in_err-left-in-Deferred-clause-equal t c = λ form other_form s u h i.
    let l = rw c.in-Deferred.is at (c.loop-left.invariant.left form other_form s u h i) in
    absurd (c.in_err-left-in-Deferred.ensures.equal form other_form l.0 l.1 l.2 l.3)

pub items_equal-loop-left-preserved : goal.items_equal-loop-left-preserved
items_equal-loop-left-preserved t c = record {
  shorter = grind (arith, first_falls);
  left = λ form other_form s u h i.
      decided_along is_equal form other_form _ _ _ _ (rw c.in-Deferred.is at (c.loop-left.invariant.left form other_form s u h i))
      (c.in_ok-left-in-Deferred.ensures.equal form other_form);
}

pub objects_equal-returns-in_err-found-clause-equal : goal.objects_equal-returns-in_err-found-clause-equal
objects_equal-returns-in_err-found-clause-equal t c = λ form other_form ps qs d e. absurd (c.in_err-found.ensures.decodes form ps d)

pub objects_equal-returns-in_err-wanted-clause-equal : goal.objects_equal-returns-in_err-wanted-clause-equal
objects_equal-returns-in_err-wanted-clause-equal t c = λ form other_form ps qs d e. absurd (c.in_err-wanted.ensures.decodes other_form qs e)

pub objects_equal-returns-in_err-texts_equal-clause-equal : goal.objects_equal-returns-in_err-texts_equal-clause-equal
objects_equal-returns-in_err-texts_equal-clause-equal t c = λ form other_form ps qs d e.
    let found = (c.in_ok-found.ensures.decodes form ps d).names in
    let wanted = (c.in_ok-wanted.ensures.decodes other_form qs e).names in
    absurd (c.in_err-texts_equal.ensures.equal form other_form (keys ps) (keys qs) found wanted)

pub objects_equal-returns-then-not-branch-clause-equal : goal.objects_equal-returns-then-not-branch-clause-equal
objects_equal-returns-then-not-branch-clause-equal t c = λ form other_form ps qs d e.
    let found = (c.in_ok-found.ensures.decodes form ps d).names in
    let wanted = (c.in_ok-wanted.ensures.decodes other_form qs e).names in
    let fails : are_equal (key_trees (keys ps)) (key_trees (keys qs))
    ≡ false = sym (c.in_ok-texts_equal.ensures.equal form other_form (keys ps) (keys qs) found wanted) ∙ c.if-not-branch.true in
    rw fails at (equal_by_parts ps qs)

pub objects_equal-returns-clause-equal : goal.objects_equal-returns-clause-equal
objects_equal-returns-clause-equal t c = λ form other_form ps qs d e.
    let left = c.in_ok-found.ensures.decodes form ps d in
    let right = c.in_ok-wanted.ensures.decodes other_form qs e in
    let holds : are_equal (key_trees (keys ps)) (key_trees (keys qs)) ≡ true = grind arith in
    let same : are_equal (values ps) (values qs) ≡ pairs_are_equal ps qs = rw holds at (equal_by_parts ps qs) in
    subst (λ (b : Bool). IsOkAnd c.entries_equal.result (λ told. Decides is_equal form other_form told b)) same
    (c.entries_equal.ensures.equal form other_form (values ps) (values qs) left.parts right.parts)

pub objects_equal-returns-clause-shorter : goal.objects_equal-returns-clause-shorter
objects_equal-returns-clause-shorter t c = grind arith

pub parts_equal-returns-in_err-array_entries-in-Array-Array-clause-equal : goal.parts_equal-returns-in_err-array_entries-in-Array-Array-clause-equal
parts_equal-returns-in_err-array_entries-in-Array-Array-clause-equal t c = λ form other_form s u h i.
    let p = rw c.in-Array-Array.is-0 at h in
    absurd (c.in_err-array_entries-in-Array-Array.ensures.decodes form p.0 p.2)

pub parts_equal-returns-in_ok-array_entries-in-Array-Array-2-clause-equal : goal.parts_equal-returns-in_ok-array_entries-in-Array-Array-2-clause-equal
parts_equal-returns-in_ok-array_entries-in-Array-Array-2-clause-equal t c = λ form other_form s u h i.
    let p = rw c.in-Array-Array.is-0 at h in
    let q = rw c.in-Array-Array.is-1 at i in
    rw (p.1, q.1) (c.entries_equal.ensures.equal form other_form p.0 q.0 (c.in_ok-array_entries-in-Array-Array.ensures.decodes form p.0 p.2)
    (c.in_ok-array_entries-in-Array-Array-2.ensures.decodes other_form q.0 q.2))

pub parts_equal-returns-in-Object-Object-clause-equal : goal.parts_equal-returns-in-Object-Object-clause-equal
parts_equal-returns-in-Object-Object-clause-equal t c = λ form other_form s u h i.
    let p = rw c.in-Object-Object.is-0 at h in
    let q = rw c.in-Object-Object.is-1 at i in
    rw (p.1, q.1) (c.objects_equal.ensures.equal form other_form p.0 q.0 p.2 q.2)
