use Rattle.jsonb.specs.KeyPathGrammar.{key_path}
use Rattle.jsonb_c.proofs.Paths.{by_key_path}
use Rattle.jsonb_c.proofs.WithinLemmas.{shown}
use Rattle.jsonb_c.proofs.span.jdoc_find_by_keypath.Goals as goal

pub returns-clause-within : goal.returns-clause-within
returns-clause-within c = shown c.args.document.now _ _ _ _ c.find_by_keypath.ensures.within c.store_found.ensures

pub returns-clause-span : goal.returns-clause-span
returns-clause-span c = by_key_path (key_path c.args.path.now) _ c.find_by_keypath.result _ _ _ c.find_by_keypath.ensures.span
    c.find_by_keypath.ensures.errors c.store_found.ensures (λ e shown. shown)
