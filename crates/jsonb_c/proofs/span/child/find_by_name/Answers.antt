use Rattle.jsonb_raw.specs.Children.{named_child}
use Rattle.jsonb_c.proofs.span.child.find_by_name.Goals as goal

pub returns-in_err-found-clause-value : goal.returns-in_err-found-clause-value
returns-in_err-found-clause-value c = λ form t d. absurd (c.in_err-found.ensures.value form t (rw c.new.ensures d))

pub returns-clause-value : goal.returns-clause-value
returns-clause-value c = λ form t d.
    let same = rw c.new.ensures at (c.in_ok-found.ensures.value form t (rw c.new.ensures d)) in
    c.found_span.ensures.span form t (named_child c.args.name.now c.args.ignore_case t) d same
