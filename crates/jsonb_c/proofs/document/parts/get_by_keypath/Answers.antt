use Rattle.std.proofs.Common.{◌≡◌, Some}
use Rattle.jsonb.specs.KeyPathGrammar.{key_path}
use Rattle.jsonb.specs.KeyPathViews.{key_paths_view}
use Rattle.jsonb_raw.proofs.IteratorLemmas.{iter_tells}
use Rattle.jsonb_c.proofs.document.parts.get_by_keypath.Goals as goal

pub returns-clause-part : goal.returns-clause-part
returns-clause-part c =
    let read : key_path c.args.path.now ≡ Some (key_paths_view c.in_ok-steps.steps) = c.in_ok-steps.ensures in
    let said = c.get_by_keypath.ensures.place _ iter_tells in
    rw read (λ form t d. rw (c.iter.ensures.rest, c.deref.ensures.value) at (said form t (rw c.new.ensures d)))
