use Rattle.jsonb_raw.proofs.order.documents_order.Goals as goal

pub returns-in-Some-clause-order : goal.returns-in-Some-clause-order
returns-in-Some-clause-order c = λ form other_form t u d e.
    c.in-Some.ensures form other_form t u (record { content = c.in_ok-entry.ensures.entry form t d }) (record { content = c.in_ok-other.ensures.entry other_form u e })

pub returns-in-None-clause-order : goal.returns-in-None-clause-order
returns-in-None-clause-order c = λ form other_form t u d e.
    c.entries_order.ensures.order form other_form t u (record { content = c.in_ok-entry.ensures.entry form t d })
    (record { content = c.in_ok-other.ensures.entry other_form u e })
