use Rattle.jsonb_c.proofs.WithinLemmas.{shown_first}
use Rattle.jsonb_c.proofs.items.span.find_front.Goals as goal

pub returns-clause-within : goal.returns-clause-within
returns-clause-within c = shown_first c.args.document.now _ _ _ _ c.front_span.ensures.within c.store_first-status.ensures
