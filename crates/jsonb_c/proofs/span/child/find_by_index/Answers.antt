use Rattle.jsonb_raw.specs.Children.{element_at}
use Rattle.jsonb_c.proofs.span.child.find_by_index.Goals as goal

pub returns-in_err-found-clause-element : goal.returns-in_err-found-clause-element
returns-in_err-found-clause-element c = λ form t d. absurd (c.in_err-found.ensures.element form t (rw c.new.ensures d))

pub returns-clause-element : goal.returns-clause-element
returns-clause-element c = λ form t d.
    let same = rw c.new.ensures at (c.in_ok-found.ensures.element form t (rw c.new.ensures d)) in
    c.found_span.ensures.span form t (element_at c.args.index t) d same
