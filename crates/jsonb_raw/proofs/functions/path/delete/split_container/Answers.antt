use Rattle.jsonb_raw.proofs.Lemmas.{◌+◌, refl, ap₂, key_view, children, values_hold, child_taken, no_child, step_into}
use Rattle.jsonb_raw.proofs.functions.path.delete.split_container.Goals as goal

pub returns-in_err-entries-clause-child : goal.returns-in_err-entries-clause-child
returns-in_err-entries-clause-child c = λ form t d. absurd (c.in_err-entries.ensures.entries form t d)

pub returns-in_default-3-clause-child : goal.returns-in_default-3-clause-child
returns-in_default-3-clause-child c = λ form t d.
    let h = rw c.in-Some.is at (c.in_ok-entries.ensures.entries form t d) in
    let parts = c.in_ok-front.ensures.split form (children t) (values_hold form t c.in-Some.entries h) in
    let at = rw c.in-Some-2.is at (c.in_ok-position.ensures.position form t h) in
    no_child form t (key_view c.args.step.now) c.in-Some-2.position _ _ at c.in_default-3.is (c.in_ok-child.ensures.first form _ parts.1)

pub returns-clause-child : goal.returns-clause-child
returns-clause-child c = λ form t d.
    let n = c.in-Some-2.position in
    let h = rw c.in-Some.is at (c.in_ok-entries.ensures.entries form t d) in
    let parts = c.in_ok-front.ensures.split form (children t) (values_hold form t c.in-Some.entries h) in
    let at = rw c.in-Some-2.is at (c.in_ok-position.ensures.position form t h) in
    let f = child_taken form (children t) n _ _ _ _ c.in-Some-3.is (c.in_ok-child.ensures.first form _ parts.1) in
    step_into form t (key_view c.args.step.now) c.in-Some.entries _ n _ h at refl refl f parts.0
    (ap₂ (λ a b. a + b) (c.len.ensures.count form _ parts.0) (c.len-2.ensures.count form _ f.after_hold))
