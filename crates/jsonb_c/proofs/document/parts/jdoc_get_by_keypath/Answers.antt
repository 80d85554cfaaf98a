use Rattle.jsonb.specs.KeyPathGrammar.{key_path}
use Rattle.jsonb_c.proofs.Paths.{by_key_path}
use Rattle.jsonb_c.proofs.document.parts.jdoc_get_by_keypath.Goals as goal

pub returns : goal.returns
returns c = by_key_path (key_path c.args.path.now) _ c.get_by_keypath.result _ _ _ c.get_by_keypath.ensures.part c.get_by_keypath.ensures.errors
    c.deliver.ensures (λ e shown. shown)
