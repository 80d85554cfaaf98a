use Rattle.std.proofs.Common.{◌∙◌, ap, Some}
use Rattle.jsonb_c.proofs.LimitLemmas.{keeps_items}
use Rattle.jsonb_c.proofs.items.jdoc_path_items.Goals as goal

pub returns-clause-items : goal.returns-clause-items
returns-clause-items c = keeps_items _ _ _ _ _ c.keep-2.ensures (Some c.deref.result.now) c.args.path.now.value
    (ap Some c.deref.ensures ∙ c.in-Some.ensures.taken) c.args.document.now c.items_of-found.ensures
