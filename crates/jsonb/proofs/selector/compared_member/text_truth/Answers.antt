use Rattle.jsonb.proofs.Lemmas.{sym, ◌∙◌, text_values}
use Rattle.jsonb.proofs.selector.compared_member.text_truth.Goals as goal

pub returns-in-Text-clause-meant : goal.returns-in-Text-clause-meant
returns-in-Text-clause-meant c = λ t l.
    let is = text_values c.args.bytes.now c.args.item t l (sym c.entry_kind.ensures ∙ c.in-Text.is) in
    rw (sym is) at (c.element_truth.ensures.meant t l)
