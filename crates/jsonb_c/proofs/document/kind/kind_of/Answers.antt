use Rattle.std.proofs.Common.{ap, ◌∙◌}
use Rattle.jsonb_c.specs.Private.Numbers.{kind_number}
use Rattle.jsonb_c.proofs.KindLemmas.{type_of}
use Rattle.jsonb_c.proofs.document.kind.kind_of.Goals as goal

pub returns-clause-kind : goal.returns-clause-kind
returns-clause-kind c = λ form t d.
    type_of t _ (c.to_u8.ensures ∙ ap kind_number (c.item_kind.ensures form t c.in_ok-item.ensures.normal (c.in_ok-item.ensures.decodes form t d)))
