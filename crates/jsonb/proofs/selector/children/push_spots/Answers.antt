use Rattle.jsonb.proofs.Lemmas.{rules, Ok, Locates, answered, pushed, singles_start, one_more, at_end, spot_first, spot_end, spot_refused}
use Rattle.jsonb.proofs.selector.children.push_spots.Goals as goal

pub loop-spot-init : goal.loop-spot-init
loop-spot-init c = search (rules, singles_start)

pub returns-in_err-spot-clause-meant : goal.returns-in_err-spot-clause-meant
returns-in_err-spot-clause-meant c = λ bytes ts before l a.
    spot_refused bytes c.in_err-spot.was c.in-Some.ensures.steps (c.loop-spot.invariant bytes ts before l a)

pub loop-spot-preserved : goal.loop-spot-preserved
loop-spot-preserved c = λ bytes ts before l a.
    one_more (c.loop-spot.invariant bytes ts before l a) (spot_first bytes c.in_ok-spot.was c.in-Some.ensures.steps)
    (λ t so_far m d. (pushed (Locates bytes)
    (Ok tt) c.loop-spot.nodes.items c.push_spot.new.nodes.items c.in_ok-spot.field-0 so_far t c.in_ok-push_spot.ensures.ok tt d m).ok)

pub returns-clause-meant : goal.returns-clause-meant
returns-clause-meant c = λ bytes ts before l a. answered (at_end (c.loop-spot.invariant bytes ts before l a) (spot_end bytes c.in-None.ensures.steps))
