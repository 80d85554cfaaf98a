use Rattle.jsonb_c.proofs.WithinLemmas.{shown}
use Rattle.jsonb_c.proofs.span.child.jdoc_find_str.Goals as goal

pub returns-clause-within : goal.returns-clause-within
returns-clause-within c = shown c.args.document.now _ _ _ _ c.find_str.ensures.within c.store_found.ensures
