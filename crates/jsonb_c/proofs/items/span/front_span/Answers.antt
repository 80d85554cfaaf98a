use Rattle.jsonb_c.proofs.ItemLemmas.{first_computed, first_is}
use Rattle.jsonb_c.proofs.items.span.front_span.Goals as goal

pub returns-in_err-item_span-in-Some-clause-span : goal.returns-in_err-item_span-in-Some-clause-span
returns-in_err-item_span-in-Some-clause-span c = λ form top ts decodes h.
    let first = first_is form c.args.document.now c.args.items.now.items ts c.in-Some.item.now c.in-Some.ensures.item.3.0 c.in-Some.ensures.lookup h in
    absurd (c.in_err-item_span-in-Some.ensures.span form top first.0 decodes first.2)

pub returns-in_ok-item_span-in-Some-clause-span : goal.returns-in_ok-item_span-in-Some-clause-span
returns-in_ok-item_span-in-Some-clause-span c = λ form top ts decodes h.
    let first = first_is form c.args.document.now c.args.items.now.items ts c.in-Some.item.now c.in-Some.ensures.item.3.0 c.in-Some.ensures.lookup h in
    let computed = first_computed c.args.items.now.items c.in-Some.item.now c.in-Some.ensures.item.3.0 c.in-Some.ensures.lookup in
    rw (first.1, computed) (c.in_ok-item_span-in-Some.ensures.span form top first.0 decodes first.2)
