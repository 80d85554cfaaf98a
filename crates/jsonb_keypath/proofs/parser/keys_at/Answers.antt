use Rattle.jsonb_keypath.proofs.Common.{◌≡◌, ◌++◌, ◌∷◌, [], sym, Some, map_push, another_key, key_view, keys_view}
use Rattle.jsonb_keypath.proofs.RepeatLemmas.{loop-goes, loop-ends}
use Rattle.jsonb_keypath.proofs.parser.keys_at.Goals as goal

pub loop-keys-preserved : goal.loop-keys-preserved
loop-keys-preserved c =
    let grown : keys_view c.push-in-Some-2.new.self.items ≡ keys_view c.loop-keys.keys.items ++ key_view c.in-Some-2.next ∷ [] =
    rw c.in_ok-push-2.ensures.items (map_push key_view c.loop-keys.keys.items c.in-Some-2.next) in
    let reads : Some (key_view c.in-Some-2.next, c.in-Some-2.after.now) ≡ another_key c.loop-keys.rest.now = rw c.in-Some-2.is at c.in_ok-next.ensures.value in
    rw grown (loop-goes another_key (keys_view c.loop-keys.keys.items) c.loop-keys.rest.now (key_view c.in-Some-2.next) c.in-Some-2.after.now _ (sym reads)
    (rw c.in-Some-2.is at c.in_ok-next.ensures.shrinks) c.loop-keys.invariant)

pub returns : goal.returns
returns c =
    sym (loop-ends another_key (keys_view c.loop-keys.keys.items) c.loop-keys.rest.now _
    (sym (rw c.in_default-2.is at c.in_ok-next.ensures.value)) c.loop-keys.invariant)
