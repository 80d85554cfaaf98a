use Rattle.jsonb_raw.proofs.functions.array.sets.roots_equal.Goals as goal

pub returns-clause-equal : goal.returns-clause-equal
returns-clause-equal c = λ form other_form t u d e.
    c.items_equal.ensures.equal form other_form t u (c.in_ok-root_item.ensures.decodes form t d) (c.in_ok-root_item-2.ensures.decodes other_form u e)
