use Rattle.jsonb_c.proofs.WithinLemmas.{shown_first}
use Rattle.jsonb_c.proofs.span.first.store_first_of.Goals as goal

pub returns-in-Ok-clause-within : goal.returns-in-Ok-clause-within
returns-in-Ok-clause-within c = shown_first c.args.document.now _ _ _ _ c.first_by_path-found.ensures.within c.store_first.ensures
