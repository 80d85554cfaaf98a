use Rattle.jsonb_raw.proofs.Lemmas.{arith, inr, [], ◌∷◌, ap, length, parts, IsKept, empty_of, failed, parts_left, pushed_around, popped_around, SomeParts-first, SomeParts-none, SomeParts-error, falls_within, falls_beside, falls_done, count_of_trees, count_of_pairs, levels_around, levels_joined, steps_joined, steps_within, item_leaves, leaf_found, leaf_of_whole, part_entered, level_done, walk_done, parts_leaves}
use Rattle.jsonb_raw.proofs.LeafWalk.{walk_begun}
use Rattle.jsonb_raw.proofs.functions.path.leaves.leaves_within.Goals as goal

pub walk-init : goal.walk-init
walk-init g c = record {
  whole = λ k d below. absurd (omega (arith, below, ap length c.in_ok-found.ensures.items));
  left = λ form t stands.
      let entered = rw c.in-Some.is at (c.in_ok-first.ensures.leaf form t stands) in
      parts_left form _ _ _ (parts t) [] entered.1 (rw c.new-around.ensures.items tt)
      (walk_begun (IsKept (g.P.LeafOutput.IsOf form)) c.args.ignore_array _ _ t c.in_ok-found.ensures.items (ap steps_within c.new-around.ensures.items)
      (item_leaves form c.args.item.now c.args.ignore_array t stands entered.0));
}

pub returns-in_err-name-clause-leaves : goal.returns-in_err-name-clause-leaves
returns-in_err-name-clause-leaves g c = λ form t stands.
    SomeParts-error form _ _ _ _ _ (λ ps h. c.in_err-name.ensures.takes form ps h) (c.walk.invariant.left form t stands)

pub returns-in_err-inner-in-Some-2-clause-leaves : goal.returns-in_err-inner-in-Some-2-clause-leaves
returns-in_err-inner-in-Some-2-clause-leaves g c = λ form t stands.
    SomeParts-first form _ _ _ _ _ _ (λ ps h. rw c.in-Some-2.is at (c.in_ok-name.ensures.takes form ps h)) (c.walk.invariant.left form t stands)
    (λ part rest others keyed is left around fact. absurd (c.in_err-inner-in-Some-2.ensures.leaf form part.1 is))

pub returns-in_err-key-in-Some-2-clause-leaves : goal.returns-in_err-key-in-Some-2-clause-leaves
returns-in_err-key-in-Some-2-clause-leaves g c = λ form t stands.
    SomeParts-first form _ _ _ _ _ _ (λ ps h. rw c.in-Some-2.is at (c.in_ok-name.ensures.takes form ps h)) (c.walk.invariant.left form t stands)
    (λ part rest others keyed is left around fact. absurd (c.in_err-key-in-Some-2.ensures.name part.0 keyed))

pub walk-smaller-in-Some-3 : goal.walk-smaller-in-Some-3
walk-smaller-in-Some-3 g c =
    falls_within _ _ _ _ _ _ (rw c.in-Some-2.is at c.in_ok-name.ensures.smaller) (rw c.in-Some-3.is at c.in_ok-inner-in-Some-2.ensures.within)
    (levels_joined _ _ _ c.in_ok-push_enclosing-in-Some-3.ensures)

pub walk-preserved-in-Some-3 : goal.walk-preserved-in-Some-3
walk-preserved-in-Some-3 g c = record {
  whole = c.walk.invariant.whole;
  left = λ form t stands.
      SomeParts-first form _ _ _ _ _ _ (λ ps h. rw c.in-Some-2.is at (c.in_ok-name.ensures.takes form ps h)) (c.walk.invariant.left form t stands)
      (λ part rest others keyed is left around fact.
      let entered = rw c.in-Some-3.is at (c.in_ok-inner-in-Some-2.ensures.leaf form part.1 is) in
      parts_left form _ _ _ (parts part.1) (rest ∷ others) entered.1 (pushed_around form _ _ _ rest others (levels_joined _ _ _ c.in_ok-push_enclosing-in-Some-3.ensures) left around)
      (part_entered (IsKept (g.P.LeafOutput.IsOf form)) c.args.ignore_array _ _ _ _ part rest others _ fact entered.0
      (c.in_ok-key-in-Some-2.ensures.name part.0 keyed)
      (parts_leaves c.args.ignore_array part.1 (grind (arith, count_of_trees, count_of_pairs, is)) entered.0) (steps_joined _ _ _ c.in_ok-push_enclosing-in-Some-3.ensures)));
}

pub returns-in_err-push_leaf-in-None-2-clause-leaves : goal.returns-in_err-push_leaf-in-None-2-clause-leaves
returns-in_err-push_leaf-in-None-2-clause-leaves g c = λ form t stands.
    SomeParts-first form _ _ _ _ _ _ (λ ps h. rw c.in-Some-2.is at (c.in_ok-name.ensures.takes form ps h)) (c.walk.invariant.left form t stands)
    (λ part rest others keyed is left around fact.
    failed _ _ _ c.from_residual-in_err-push_leaf-in-None-2.ensures.1 (inr (leaf_of_whole (IsKept (g.P.LeafOutput.IsOf form)) c.args.ignore_array
    (λ leaf. g.P.LeafOutput.IsRefusalOf form leaf.1 c.in_err-push_leaf-in-None-2.field-0.0) _ _ _ _ part rest others _ fact
    (rw c.in-None-2.is at (c.in_ok-inner-in-Some-2.ensures.leaf form part.1 is)) (c.in_ok-key-in-Some-2.ensures.name part.0 keyed)
    (c.in_err-push_leaf-in-None-2.ensures.leaf form part.1 is))))

pub walk-smaller-in-None-2 : goal.walk-smaller-in-None-2
walk-smaller-in-None-2 g c = falls_beside _ _ (levels_around c.walk.around.items) _ (rw c.in-Some-2.is at c.in_ok-name.ensures.smaller)

pub walk-preserved-in-None-2 : goal.walk-preserved-in-None-2
walk-preserved-in-None-2 g c = record {
  whole = c.in_ok-push_leaf-in-None-2.ensures.whole c.walk.invariant.whole;
  left = λ form t stands.
      SomeParts-first form _ _ _ _ _ _ (λ ps h. rw c.in-Some-2.is at (c.in_ok-name.ensures.takes form ps h)) (c.walk.invariant.left form t stands)
      (λ part rest others keyed is left around fact.
      let more = c.in_ok-push_leaf-in-None-2.ensures.leaf form part.1 is in
      parts_left form _ _ _ rest others left around
      (leaf_found (IsKept (g.P.LeafOutput.IsOf form)) c.args.ignore_array _ _ _ _ _ part rest others _
      (c.in_ok-path-in-None-2.path, more.part) fact
      (rw c.in-None-2.is at
      (c.in_ok-inner-in-Some-2.ensures.leaf form part.1 is)) (c.in_ok-key-in-Some-2.ensures.name part.0 keyed)
      (rw c.deref.ensures.value at c.in_ok-path-in-None-2.ensures, more.is)
      more.pushed));
}

pub walk-smaller : goal.walk-smaller
walk-smaller g c = falls_done _ _ _ _ (levels_joined _ _ _ c.in-Some-pop.ensures.items)

pub walk-preserved : goal.walk-preserved
walk-preserved g c = record {
  whole = c.walk.invariant.whole;
  left = λ form t stands.
      SomeParts-none form _ _ _ _ (λ ps h. rw c.in-None.is at (c.in_ok-name.ensures.takes form ps h)) (c.walk.invariant.left form t stands)
      (λ others around fact.
      popped_around form _ _ _ others (levels_joined _ _ _ c.in-Some-pop.ensures.items) around
      (λ here more same left outside. parts_left form _ _ _ here more left outside
      (level_done (IsKept (g.P.LeafOutput.IsOf form)) c.args.ignore_array _ _ _ _ c.walk.index here others more _ same
      (steps_joined _ _ _ c.in-Some-pop.ensures.items) fact)));
}

pub returns-in-None-pop-clause-leaves : goal.returns-in-None-pop-clause-leaves
returns-in-None-pop-clause-leaves g c = λ form t stands.
    SomeParts-none form _ _ _ _ (λ ps h. rw c.in-None.is at (c.in_ok-name.ensures.takes form ps h)) (c.walk.invariant.left form t stands)
    (λ others around fact. walk_done (IsKept (g.P.LeafOutput.IsOf form)) c.args.ignore_array _ _ c.walk.index others _
    (ap steps_within (empty_of c.walk.around.items (omega (arith, c.in-None-pop.ensures.cases.0, c.walk.around.ok.0)))) fact)
