use Rattle.jsonb_raw.proofs.Lemmas.{◌≡◌, ◌∙◌, sym, true, keeps}
use Rattle.jsonb_raw.proofs.functions.array.sets.push_kept.Goals as goal

pub returns-clause-pushed : goal.returns-clause-pushed
returns-clause-pushed c = λ form other before held t stands fits after few holds.
    let key = c.in_ok-key.ensures.key form t stands in
    let kept = c.in_ok-keep_element.ensures.kept other before t after fits key few in
    let is : keeps c.args.kind other (before, t) ≡ true = sym kept ∙ c.if-not-branch.false in
    rw is (c.push_item.ensures.pushed form held t holds stands)
