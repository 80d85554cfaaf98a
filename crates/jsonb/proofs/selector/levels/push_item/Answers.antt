use Rattle.jsonb.proofs.Lemmas.{rules, ◌++◌, subst, sym, AllZip, Locates, arith, children_of, some_spots, preorder-entered, preorder-leaf, taken_is, range_taken, preorder-passed}
use Rattle.jsonb.proofs.selector.levels.push_item.Goals as goal

pub returns-in_err-children-clause-meant : goal.returns-in_err-children-clause-meant
returns-in_err-children-clause-meant c = λ levels u n before ranged l m a. absurd (c.in_err-children.ensures.spots u m)

pub returns-in-Some-clause-meant : goal.returns-in-Some-clause-meant
returns-in-Some-clause-meant c = λ levels u n before ranged l m a.
    let found = some_spots c.args.bytes.now c.in-Some.children (children_of u) (rw c.in-Some.is at (c.in_ok-children.ensures.spots u m)) in (
      subst (λ own. AllZip (Locates c.args.bytes.now) c.push_if.new.nodes.items (before ++ own)) (sym (taken_is levels n u))
          (rw (range_taken levels _ _ n _ ranged l c.contains.ensures) at (c.in_ok-push_if.ensures.meant c.args.bytes.now u before m a).ok),
      (found.0, (found.2, c.next_level.ensures n l), preorder-entered levels n u found.0 found.1),
    )

pub returns-in-None-clause-meant : goal.returns-in-None-clause-meant
returns-in-None-clause-meant c = λ levels u n before ranged l m a. grind (arith, range_taken, preorder-leaf, taken_is)

pub returns-then-range-level-clause-meant : goal.returns-then-range-level-clause-meant
returns-then-range-level-clause-meant c = search (rules, range_taken, preorder-passed, taken_is)
