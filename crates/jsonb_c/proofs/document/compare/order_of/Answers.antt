use Rattle.jsonb_c.proofs.document.compare.order_of.Goals as goal

pub returns-clause-order : goal.returns-clause-order
returns-clause-order c = λ form other_form t u d e.
    c.compare.ensures.order form other_form t u (rw c.new-document.ensures d) (rw c.new-other.ensures e)
