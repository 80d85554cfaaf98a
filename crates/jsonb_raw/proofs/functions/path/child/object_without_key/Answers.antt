use Rattle.jsonb_raw.proofs.Lemmas.{◌≡◌, Some, None, not, sym, ◌∙◌, position, bytes_eq, keys_of, object, members, pairs_of-members, decoded_members, AreKeys-filter, all_stay, one_goes}
use Rattle.jsonb_raw.proofs.functions.path.child.object_without_key.Goals as goal

pub returns-in_err-pairs-clause-deleted : goal.returns-in_err-pairs-clause-deleted
returns-in_err-pairs-clause-deleted c = λ form ps d. absurd (c.in_err-pairs.ensures.entries form (object ps) d)

pub returns-in_default-clause-deleted : goal.returns-in_default-clause-deleted
returns-in_default-clause-deleted c = λ form ps d. absurd (rw c.in_default.is at (c.in_ok-pairs.ensures.entries form (object ps) d))

pub returns-in_err-position-clause-deleted : goal.returns-in_err-position-clause-deleted
returns-in_err-position-clause-deleted c = λ form ps d.
    let h = rw c.in-Some.is at (c.in_ok-pairs.ensures.entries form (object ps) d) in
    absurd (c.in_err-position.ensures.position form (keys_of (members ps)) h.names (decoded_members form _ ps d))

pub returns-clause-deleted : goal.returns-clause-deleted
returns-clause-deleted c = λ form ps d.
    let h = rw c.in-Some.is at (c.in_ok-pairs.ensures.entries form (object ps) d) in
    let are = decoded_members form _ ps d in
    let found : position (λ key. bytes_eq key c.args.name.now) (keys_of (members ps)) ≡ Some c.in-Some-2.position =
    rw (← c.as_bytes.ensures.value) (sym (c.in_ok-position.ensures.position form (keys_of (members ps)) h.names are) ∙ c.in-Some-2.is) in
    let is = one_goes c.args.name.now (members ps) c.in-Some-2.position are found in
    rw is (c.object_without_pair.ensures.deleted form (members ps) h
    (rw is at (AreKeys-filter (λ p. not (bytes_eq p.0 c.args.name.now)) (members ps) are)))

pub returns-in_default-2-clause-deleted : goal.returns-in_default-2-clause-deleted
returns-in_default-2-clause-deleted c = λ form ps d.
    let h = rw c.in-Some.is at (c.in_ok-pairs.ensures.entries form (object ps) d) in
    let found : position (λ key. bytes_eq key c.args.name.now) (keys_of (members ps)) ≡ None =
    rw (← c.as_bytes.ensures.value)
    (sym (c.in_ok-position.ensures.position form (keys_of (members ps)) h.names (decoded_members form _ ps d)) ∙ c.in_default-2.is) in
    rw (c.new.ensures, c.in_ok-from_slice.ensures.items, all_stay c.args.name.now (members ps) found, pairs_of-members ps) d
