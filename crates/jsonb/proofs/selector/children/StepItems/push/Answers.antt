use Rattle.jsonb.proofs.Lemmas.{◌≡◌, Ok, Some, None, ap, refl, Locates, no_member, one_member, same_outcome, pushed, unchanged}
use Rattle.jsonb.proofs.selector.children.StepItems.push.Goals as goal

pub returns-in-AtMostOne-Some-clause-meant : goal.returns-in-AtMostOne-Some-clause-meant
returns-in-AtMostOne-Some-clause-meant c = λ ts before h a.
    let same : c.in-AtMostOne-Some.field-0 ≡ Some c.in-AtMostOne-Some.item = rw c.in-AtMostOne-Some.is at c.in-AtMostOne-Some.field-0-is in
    let one = one_member (Locates c.args.bytes.now) c.in-AtMostOne-Some.field-0 c.in-AtMostOne-Some.item ts same (rw c.in-AtMostOne-Some.is at h) in
    same_outcome (ap Ok one.1)
    (pushed (Locates c.args.bytes.now) c.push_spot.result c.args.nodes.now.items c.push_spot.new.nodes.items c.in-AtMostOne-Some.item before one.0
    c.push_spot.ensures.ok c.push_spot.ensures.err a one.2)

pub returns-in-AtMostOne-None-clause-meant : goal.returns-in-AtMostOne-None-clause-meant
returns-in-AtMostOne-None-clause-meant c = λ ts before h a.
    let same : c.in-AtMostOne-None.field-0 ≡ None = rw c.in-AtMostOne-None.is at c.in-AtMostOne-None.field-0-is in
    same_outcome (ap Ok (no_member (Locates c.args.bytes.now) c.in-AtMostOne-None.field-0 ts same (rw c.in-AtMostOne-None.is at h)))
    (unchanged (Locates c.args.bytes.now) _ before a)

pub returns-in-Children-clause-meant : goal.returns-in-Children-clause-meant
returns-in-Children-clause-meant c = λ ts before h a. c.push_spots.ensures.meant c.args.bytes.now ts before (rw c.in-Children.is at h) a

pub returns-in-Picked-clause-meant : goal.returns-in-Picked-clause-meant
returns-in-Picked-clause-meant c = λ ts before h a.
    let k = rw c.in-Picked.is at h in same_outcome (ap Ok k.2) (c.push_picked.ensures.meant c.args.bytes.now k.0 before k.1 a)

pub returns-in-Levels-clause-meant : goal.returns-in-Levels-clause-meant
returns-in-Levels-clause-meant c = λ ts before h a.
    let k = rw c.in-Levels.is at h in same_outcome (ap Ok k.2) (c.push_levels.ensures.meant k.0 0 before refl k.1 a)
