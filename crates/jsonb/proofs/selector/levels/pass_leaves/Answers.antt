use Rattle.jsonb.proofs.Lemmas.{rules, ◌≡◌, ◌∷◌, [], ◌<◌, ap, sym, ◌∙◌, arith, if◌then◌else◌, no_refusal, spots_bound, children_of, preorder, leaf_passed, next_left, preorder-leaf, taken_is, spot_first, spot_end, none_of}
use Rattle.jsonb.proofs.BelowLemmas.{none_passed, none_left}
use Rattle.jsonb.proofs.selector.levels.pass_leaves.Goals as goal

pub loop-child-init : goal.loop-child-init
loop-child-init c = search (rules, none_passed)

pub returns-in_err-child-clause-meant : goal.returns-in_err-child-clause-meant
returns-in_err-child-clause-meant c = λ bytes levels n ts before l m a.
    let w = c.loop-child.invariant.passed bytes levels n ts before l m a in
    absurd (no_refusal bytes w.rest c.in-Some.child _ _ c.in_err-child.was (c.in-Some.ensures.steps.takes bytes w.rest w.left))

pub returns-then-is_container-clause-meant : goal.returns-then-is_container-clause-meant
returns-then-is_container-clause-meant c = λ bytes levels n ts before l m a.
    search (next_left, spot_first, c.loop-child.invariant.passed bytes levels n ts before l m a, c.in_ok-child.was, c.in-Some.ensures.steps)

pub returns-then-is_container-clause-size : goal.returns-then-is_container-clause-size
returns-then-is_container-clause-size c = omega (arith, c.loop-child.invariant.room, rw c.in_ok-child.was at c.in-Some.ensures.steps.any_bytes.size)

pub returns-then-is_container-clause-room : goal.returns-then-is_container-clause-room
returns-then-is_container-clause-room c = omega (arith, c.loop-child.invariant.room, c.in-Some.ensures.steps.any_bytes.room)

pub returns-then-is_container-clause-bound : goal.returns-then-is_container-clause-bound
returns-then-is_container-clause-bound c = grind (arith, c.in-Some.ensures.goes.on, c.loop-child.invariant.bound)

pub loop-child-preserved : goal.loop-child-preserved
loop-child-preserved c =
    let fewer : spots_bound c.next.new.self < spots_bound c.loop-child.left = (c.in-Some.ensures.goes.on tt).2 in
    record {
      room = omega (arith, c.loop-child.invariant.room, c.in-Some.ensures.steps.any_bytes.room);
      bound = omega (arith, c.loop-child.invariant.bound, fewer);
      passed = λ bytes levels n ts before l m a.
          let w = c.loop-child.invariant.passed bytes levels n ts before l m a in
          let f = spot_first bytes c.in_ok-child.was c.in-Some.ensures.steps w.rest w.left in
          let leaf = none_of (children_of f.first) (sym (c.is_container.ensures bytes f.first f.holds) ∙ c.if-is_container.false) in
          let own_is : (if c.args.is_taken then f.first ∷ [] else []) ≡ preorder levels n f.first =
          ap (λ b. if b then f.first ∷ [] else []) l ∙ sym (taken_is levels n f.first) ∙ sym (preorder-leaf levels n f.first leaf) in
          leaf_passed bytes levels n ts before _ _ _ _ _ w f
          (λ given done. rw own_is at ((c.in_ok-push_if.ensures.meant bytes f.first given f.holds done).ok));
    }

pub returns-clause-meant : goal.returns-clause-meant
returns-clause-meant c = λ bytes levels n ts before l m a.
    search (none_left, spot_end, c.loop-child.invariant.passed bytes levels n ts before l m a, c.in_default.ensures.steps)
