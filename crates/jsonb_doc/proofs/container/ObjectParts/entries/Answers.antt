use Rattle.jsonb_doc.proofs.Lemmas.{◌≡◌, ◌-◌, length, take, keys, key_bytes, entries_of, key_entries, front_of, HoldsPairs-skipped, HoldsPairs-values}
use Rattle.jsonb_doc.proofs.container.ObjectParts.entries.Goals as goal

pub returns-in_err-values-clause-entries : goal.returns-in_err-values-clause-entries
returns-in_err-values-clause-entries c = λ form ps held.
    absurd (HoldsPairs-skipped form c.args.self.now c.in_err-values.ensures.contents ps held)

pub returns-clause-entries : goal.returns-clause-entries
returns-clause-entries c = λ form ps held.
    let parts = c.args.self.now in
    let same = HoldsPairs-values _ ps _ _ held c.in_ok-values.ensures.contents in
    let front : take (length parts.contents.now - length c.in_ok-values.values.now) parts.contents.now ≡ key_bytes (keys ps) =
    rw same (front_of _ (key_bytes (keys ps)) held.rest held.bytes) in
    record {
      are_keys = held.are_keys;
      names = record { entries = rw (held.words, c.split_at.ensures.front, front) (key_entries _ (keys ps) held.are_keys) };
      parts = record { entries = rw same (entries_of _ ps _ _ held.values) };
    }
