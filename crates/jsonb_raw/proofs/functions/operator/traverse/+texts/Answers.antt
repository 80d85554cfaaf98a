use Rattle.jsonb_raw.proofs.Lemmas.{rules, arith, true, false, ◌++◌, ◌∷◌, [], None, ◌≡◌, refl, FnReturnsAt, texts, texts_of_trees, texts_of_pairs, told_none, told_alone, told_first, told_head, told_after, leaves_all, leaves_after, leaves_aside, leaves_told, text_stored, none_yet, SomeEntries-first, SomeEntries-error, SomeEntries-none, SomePairEntries-first, SomePairEntries-error, SomePairEntries-none}
use Rattle.jsonb_raw.proofs.functions.operator.traverse.+texts.Goals as goal

-- ---- items

pub any_text_in_item-returns-then-told-clause-told : goal.any_text_in_item-returns-then-told-clause-told
any_text_in_item-returns-then-told-clause-told g t c = λ form tree stands.
    let l = c.loop-told.invariant.left form tree stands in
    l.2 true (rw c.if-told.true at (c.in_ok-told.ensures.told form l.0 l.1))

pub any_text_in_item-loop-told-preserved : goal.any_text_in_item-loop-told-preserved
any_text_in_item-loop-told-preserved g t c = record {
  shorter = let size = rw c.in-Some.is at c.in_ok-told.ensures.less in omega (arith, size, c.loop-told.invariant.shorter);
  left = λ form tree stands. grind arith;
}

pub search_item_but_largest-returns-in-String-clause-told : goal.search_item_but_largest-returns-in-String-clause-told
search_item_but_largest-returns-in-String-clause-told g t c = λ form tree stands.
    let is = rw c.in-String.is at stands in
    let told : FnReturnsAt g.F.Fn c.args.func.now c.in-String.text.now c.func.result = record
    { shown = c.as_bytes.result; shows = c.as_bytes.ensures.value; says = record { met = c.func.ensures } } in
    rw (is, c.of.ensures.answer, c.of.ensures.all) (leaves_told g.F.Fn c.args.func.now form [] (c.in-String.text.now ∷ []) c.func.result
    (told_alone g.F.Fn c.args.func.now _ c.func.result told))

pub search_item_but_largest-returns-in-Array-clause-told : goal.search_item_but_largest-returns-in-Array-clause-told
search_item_but_largest-returns-in-Array-clause-told g t c = λ form tree stands.
    let (ts, is, d) = rw c.in-Array.is at stands in
    rw is (c.array_tells.ensures.told form ts d)

pub search_item_but_largest-returns-in-Object-clause-told : goal.search_item_but_largest-returns-in-Object-clause-told
search_item_but_largest-returns-in-Object-clause-told g t c = λ form tree stands.
    let (ps, is, d) = rw c.in-Object.is at stands in
    rw is (c.object_tells.ensures.told form ps d)

-- ---- entries

pub any_text_in_entry-returns-then-is_text-clause-told : goal.any_text_in_entry-returns-then-is_text-clause-told
any_text_in_entry-returns-then-is_text-clause-told g t c = grind (arith, text_stored, told_alone)

pub any_text_in_entry-returns-then-not-is_container-clause-told : goal.any_text_in_entry-returns-then-not-is_container-clause-told
any_text_in_entry-returns-then-not-is_container-clause-told c = search (rules, told_none)

-- ---- arrays

pub array_tells-returns-in_err-entry-items-clause-told : goal.array_tells-returns-in_err-entry-items-clause-told
array_tells-returns-in_err-entry-items-clause-told g t c = λ form ts d. absurd (c.in_err-entry-items.ensures.decodes form ts d)

pub array_tells-loop-entry-init : goal.array_tells-loop-entry-init
array_tells-loop-entry-init g t c = record {
  size = tt;
  room = search rules;
  left = λ form ts d. search (leaves_all, c.into_iter-entry-iterator.ensures.into_iter_gives, c.in_ok-entry-items.ensures.decodes, g.F.Fn);
}

pub array_tells-loop-entry-preserved : goal.array_tells-loop-entry-preserved
array_tells-loop-entry-preserved g t c = record {
  size = c.loop-entry.invariant.size;
  room = omega (arith, c.in-Some.ensures.steps.room, c.loop-entry.invariant.room);
  left = λ form ts d.
      SomeEntries-first form _ _ _ _ _ c.in_ok-entry.was c.in-Some.ensures.steps (c.loop-entry.invariant.left form ts d)
      (λ first rest left stored fact. record {
        trees = rest;
        left = left;
        fact = leaves_after g.F.Fn c.args.func.now form (texts_of_trees ts) _ (texts first) (texts_of_trees rest)
            (rw c.if-branch.false at (c.in_ok-any_text_in_entry.ensures.told form first stored)) fact;
      });
}

pub array_tells-returns-in_err-entry-clause-told : goal.array_tells-returns-in_err-entry-clause-told
array_tells-returns-in_err-entry-clause-told g t c = λ form ts d.
    SomeEntries-error form _ _ _ _ _ c.in_err-entry.was c.in-Some.ensures.steps (c.loop-entry.invariant.left form ts d)

pub array_tells-returns-in_err-any_text_in_entry-clause-told : goal.array_tells-returns-in_err-any_text_in_entry-clause-told
array_tells-returns-in_err-any_text_in_entry-clause-told g t c = λ form ts d.
    SomeEntries-first form _ _ _ _ _ c.in_ok-entry.was c.in-Some.ensures.steps (c.loop-entry.invariant.left form ts d)
    (λ first rest left stored fact. absurd (c.in_err-any_text_in_entry.ensures.told form first stored))

pub array_tells-returns-then-branch-clause-told : goal.array_tells-returns-then-branch-clause-told
array_tells-returns-then-branch-clause-told g t c = λ form ts d.
    SomeEntries-first form _ _ _ _ _ c.in_ok-entry.was c.in-Some.ensures.steps (c.loop-entry.invariant.left form ts d)
    (λ first rest left stored fact. rw c.of.ensures.answer (fact.found
    (told_first g.F.Fn c.args.func.now (texts first) (texts_of_trees rest) (rw c.if-branch.true at (c.in_ok-any_text_in_entry.ensures.told form first stored)))))

pub array_tells-returns-clause-told : goal.array_tells-returns-clause-told
array_tells-returns-clause-told g t c = λ form ts d.
    (SomeEntries-none form _ _ _ c.in-None.ensures.steps (c.loop-entry.invariant.left form ts d)).rest (told_none g.F.Fn c.args.func.now)

pub array_tells-loop-entry-preserved-then-is_container_longer_than : goal.array_tells-loop-entry-preserved-then-is_container_longer_than
array_tells-loop-entry-preserved-then-is_container_longer_than g t c =
    let none : c.loop-entry.large ≡ None = none_yet _ _ c.is_none.ensures c.if-is_none.true in
    let size = rw c.in_ok-entry.was at c.in-Some.ensures.steps.size in
    record {
      size = omega (arith, c.in_ok-item.ensures.size, size, c.loop-entry.invariant.room);
      room = omega (arith, c.in-Some.ensures.steps.room, c.loop-entry.invariant.room);
      left = λ form ts d.
          SomeEntries-first form _ _ _ _ _ c.in_ok-entry.was c.in-Some.ensures.steps (rw none at (c.loop-entry.invariant.left form ts d))
          (λ first rest left stored fact. record {
            trees = rest;
            left = left;
            fact = search (leaves_aside, g.F.Fn, c.in_ok-item.field-0, c.in_ok-item.ensures.decodes);
          });
    }

-- ---- objects

pub object_tells-returns-in_err-pair-items-clause-told : goal.object_tells-returns-in_err-pair-items-clause-told
object_tells-returns-in_err-pair-items-clause-told g t c = λ form ps d. absurd (c.in_err-pair-items.ensures.decodes form ps d)

pub object_tells-loop-pair-init : goal.object_tells-loop-pair-init
object_tells-loop-pair-init g t c = record {
  size = tt;
  room = search rules;
  left = λ form ps d. search (leaves_all, c.into_iter-pair-iterator.ensures.into_iter_gives, c.in_ok-pair-items.ensures.decodes, g.F.Fn);
}

pub object_tells-returns-in_err-key-clause-told : goal.object_tells-returns-in_err-key-clause-told
object_tells-returns-in_err-key-clause-told g t c = λ form ps d.
    SomePairEntries-error form _ _ _ _ _ c.in_err-key.was c.in-Some.ensures.steps (c.loop-pair.invariant.left form ps d)

pub object_tells-returns-in_err-any_text_in_entry-clause-told : goal.object_tells-returns-in_err-any_text_in_entry-clause-told
object_tells-returns-in_err-any_text_in_entry-clause-told g t c = λ form ps d.
    SomePairEntries-first form _ _ _ _ _ c.in_ok-key.was c.in-Some.ensures.steps (c.loop-pair.invariant.left form ps d)
    (λ value rest left stored fact. absurd (c.in_err-any_text_in_entry.ensures.told form value stored))

pub object_tells-returns-then-func-clause-told : goal.object_tells-returns-then-func-clause-told
object_tells-returns-then-func-clause-told g t c = λ form ps d.
    SomePairEntries-first form _ _ _ _ _ c.in_ok-key.was c.in-Some.ensures.steps (c.loop-pair.invariant.left form ps d)
    (λ value rest left stored fact.
    let told : FnReturnsAt g.F.Fn c.args.func.now c.in_ok-key.key.now true = record
    { shown = c.in_ok-key.key; shows = refl; says = record { met = rw c.if-func.true at c.func.ensures } } in
    rw c.of.ensures.answer (fact.found (told_head g.F.Fn c.args.func.now c.in_ok-key.key.now (texts value ++ texts_of_pairs rest) told)))

pub object_tells-returns-then-branch-clause-told : goal.object_tells-returns-then-branch-clause-told
object_tells-returns-then-branch-clause-told g t c = λ form ps d.
    SomePairEntries-first form _ _ _ _ _ c.in_ok-key.was c.in-Some.ensures.steps (c.loop-pair.invariant.left form ps d)
    (λ value rest left stored fact.
    let told : FnReturnsAt g.F.Fn c.args.func.now c.in_ok-key.key.now false = record
    { shown = c.in_ok-key.key; shows = refl; says = record { met = rw c.if-func.false at c.func.ensures } } in
    rw c.of-then-branch.ensures.answer (fact.found (told_after g.F.Fn c.args.func.now c.in_ok-key.key.now (texts value ++ texts_of_pairs rest) told true
    (told_first g.F.Fn c.args.func.now (texts value) (texts_of_pairs rest) (rw c.if-branch.true at (c.in_ok-any_text_in_entry.ensures.told form value stored))))))

pub object_tells-loop-pair-preserved : goal.object_tells-loop-pair-preserved
object_tells-loop-pair-preserved g t c = record {
  size = c.loop-pair.invariant.size;
  room = omega (arith, c.in-Some.ensures.steps.room, c.loop-pair.invariant.room);
  left = λ form ps d.
      SomePairEntries-first form _ _ _ _ _ c.in_ok-key.was c.in-Some.ensures.steps (c.loop-pair.invariant.left form ps d)
      (λ value rest left stored fact.
      let told : FnReturnsAt g.F.Fn c.args.func.now c.in_ok-key.key.now false = record
      { shown = c.in_ok-key.key; shows = refl; says = record { met = rw c.if-func.false at c.func.ensures } } in
      let none = told_alone g.F.Fn c.args.func.now c.in_ok-key.key.now false told in
      record {
        pairs = rest;
        left = left;
        fact = leaves_after g.F.Fn c.args.func.now form (texts_of_pairs ps) _ (texts value) (texts_of_pairs rest)
            (rw c.if-branch.false at (c.in_ok-any_text_in_entry.ensures.told form value stored))
            (leaves_after g.F.Fn c.args.func.now form (texts_of_pairs ps) _ (c.in_ok-key.key.now ∷ []) (texts value ++ texts_of_pairs rest) none fact);
      });
}

pub object_tells-loop-pair-preserved-then-is_container_longer_than : goal.object_tells-loop-pair-preserved-then-is_container_longer_than
object_tells-loop-pair-preserved-then-is_container_longer_than g t c =
    let none : c.loop-pair.large ≡ None = none_yet _ _ c.is_none.ensures c.if-is_none.true in
    let size = rw c.in_ok-key.was at c.in-Some.ensures.steps.size in
    record {
      size = omega (arith, c.in_ok-item.ensures.size, size, c.loop-pair.invariant.room);
      room = omega (arith, c.in-Some.ensures.steps.room, c.loop-pair.invariant.room);
      left = λ form ps d.
          SomePairEntries-first form _ _ _ _ _ c.in_ok-key.was c.in-Some.ensures.steps (rw none at (c.loop-pair.invariant.left form ps d))
          (λ value rest left stored fact.
          let told : FnReturnsAt g.F.Fn c.args.func.now c.in_ok-key.key.now false = record
          { shown = c.in_ok-key.key; shows = refl; says = record { met = rw c.if-func.false at c.func.ensures } } in
          let none = told_alone g.F.Fn c.args.func.now c.in_ok-key.key.now false told in
          record {
            pairs = rest;
            left = left;
            fact = leaves_aside g.F.Fn c.args.func.now form (texts_of_pairs ps) c.in_ok-item.field-0 value
                (texts_of_pairs rest) (c.in_ok-item.ensures.decodes form value stored.content)
                (leaves_after g.F.Fn c.args.func.now form (texts_of_pairs ps) None (c.in_ok-key.key.now ∷ []) (texts value ++ texts_of_pairs rest) none fact);
          });
    }

pub object_tells-returns-clause-told : goal.object_tells-returns-clause-told
object_tells-returns-clause-told g t c = λ form ps d.
    (SomePairEntries-none form _ _ _ c.in-None.ensures.steps (c.loop-pair.invariant.left form ps d)).rest (told_none g.F.Fn c.args.func.now)

-- what is stored can be read
pub array_tells-returns-in_err-item-clause-told : goal.array_tells-returns-in_err-item-clause-told
array_tells-returns-in_err-item-clause-told g t c = λ form ts d.
    SomeEntries-first form _ _ _ _ _ c.in_ok-entry.was c.in-Some.ensures.steps (c.loop-entry.invariant.left form ts d)
    (λ first rest left stored fact. absurd (c.in_err-item.ensures.decodes form first stored.content))

pub object_tells-returns-in_err-item-clause-told : goal.object_tells-returns-in_err-item-clause-told
object_tells-returns-in_err-item-clause-told g t c = λ form ps d.
    SomePairEntries-first form _ _ _ _ _ c.in_ok-key.was c.in-Some.ensures.steps (c.loop-pair.invariant.left form ps d)
    (λ value rest left stored fact. absurd (c.in_err-item.ensures.decodes form value stored.content))
