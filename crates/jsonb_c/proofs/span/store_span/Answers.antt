use Rattle.jsonb_c.proofs.WithinLemmas.{shown}
use Rattle.jsonb_c.proofs.span.store_span.Goals as goal

pub returns-in-Some-clause-within : goal.returns-in-Some-clause-within
returns-in-Some-clause-within c = shown c.args.document.now _ _ _ _ c.span_at.ensures.within c.store_found.ensures
