use Rattle.jsonb_doc.proofs.Lemmas.{◌+◌, ap, ◌∙◌, arith, parts, values_parts, waiting_parts, remaining, as_many_parts, values_parts-last}
use Rattle.jsonb_doc.proofs.value.release.without_value.Goals as goal

pub returns-in-Some-container : goal.returns-in-Some-container
returns-in-Some-container c =
    let row = ap values_parts c.in-Some.ensures.items ∙ values_parts-last c.pop.new.self.items c.in-Some.last in
    as_many_parts (1 + values_parts c.pop.new.self.items + parts c.in-Some-container.inner) _ (waiting_parts c.args.waiting) (remaining c.without_inner.result)
    (omega (arith, row, ap parts c.in-Some-container.ensures, c.loop-last.invariant.fewer)) c.without_inner.ensures
