use Rattle.std.proofs.Common.{sym, ap, ◌∙◌}
use Rattle.jsonb_c.specs.Private.Numbers.{number_kind, tree_kind}
use Rattle.jsonb_c.proofs.document.kind.item_kind.Goals as goal

pub returns-in-Number : goal.returns-in-Number
returns-in-Number c = λ form t normal stands.
    let stands' = rw c.in-Number.is at stands in
    let normal' = rw c.in-Number.is at normal in
    c.number_kind.ensures ∙ ap (λ n. number_kind n.variant) normal' ∙ sym (ap tree_kind stands')
