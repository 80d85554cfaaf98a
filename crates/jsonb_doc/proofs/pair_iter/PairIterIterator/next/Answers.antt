use Rattle.jsonb_doc.proofs.Lemmas.{◌∙◌, ◌≤◌, length, arith, rules, refl, inl, inr, Some, Err, common_steps, Form, Pairs, kind_number, Error, IsDecodingError, PairIter, ReadsPair, GivesPair, HasPairsLeft, BeginWith-unique, BeginWith-room, HasPairsLeft-first}
use Rattle.jsonb_doc.proofs.pair_iter.PairIterIterator.next.Goals as goal

failed : (before after : PairIter) (e : Error) → IsDecodingError e → ReadsPair before (Some (Err e)) after
    → length after.value_contents.now ≤ length before.value_contents.now → ((form : Form) (ps : Pairs) → HasPairsLeft form before ps → ⊥)
    → GivesPair before (Some (Err e)) after
failed before after e errors reads room none = record {
  any_bytes = record { reads = reads; errors = errors; ended = tt; size = tt; room = room };
  takes = λ form ps h. absurd (none form ps h);
  normal = tt;
}

pub returns-in_default-clause-steps : goal.returns-in_default-clause-steps
returns-in_default-clause-steps c = failed _ _ _ (search rules) (inl (inl c.in_default.ensures, refl)) (omega arith)
    (λ form ps h. c.in_default.ensures _ _ _ _ (HasPairsLeft-first form c.args.self.now ps (grind (arith, common_steps)) h).begin)

pub returns-in_default-split_entry-clause-steps : goal.returns-in_default-split_entry-clause-steps
returns-in_default-split_entry-clause-steps c = failed _ _ _ (search rules) (inl (inr c.in_default-split_entry.ensures, refl)) (omega arith)
    (λ form ps h. c.in_default-split_entry.ensures _ _ _ _ (HasPairsLeft-first form c.args.self.now ps (grind (arith, common_steps)) h).entry.begin)

pub returns-in_default-from_utf8-clause-steps : goal.returns-in_default-from_utf8-clause-steps
returns-in_default-from_utf8-clause-steps c =
    failed _ _ _ (search rules)
    (inr (
      _,
      _,
      _,
      record { key_kind = _; name = c.in-Some.ensures; value = c.in-Some-split_entry.ensures },
      λ utf8 item. absurd (c.in_default-from_utf8.ensures.cases.0 utf8),
    ))
    (BeginWith-room _ _ _ _ _ _ c.in-Some-split_entry.ensures).1 (λ form ps h.
    let first = HasPairsLeft-first form c.args.self.now ps (grind (arith, common_steps)) h in
    let same = BeginWith-unique _ _ _ _ _ _ _ _ _ _ c.in-Some.ensures first.begin in
    c.in_default-from_utf8.ensures.cases.0 (rw same.1 first.utf8))

pub returns-in-Ok-from_content-clause-steps : goal.returns-in-Ok-from_content-clause-steps
returns-in-Ok-from_content-clause-steps c =
    let room = BeginWith-room _ _ _ _ _ _ c.in-Some-split_entry.ensures in
    record {
      any_bytes = record {
        reads = (
          _,
          _,
          record { key_kind = kind_number c.in-Some.key.kind; name = rw c.in-Ok.ensures.cases.0 c.in-Some.ensures; value = c.in-Some-split_entry.ensures },
          rw c.in-Ok.ensures.cases.0 c.in-Ok.ensures.cases.1,
          c.in-Ok-from_content.ensures.reads,
        );
        errors = search rules;
        ended = search rules;
        size = omega (arith, room.0, c.in-Ok-from_content.ensures.size);
        room = room.1;
      };
      takes = λ form ps h.
          let first = HasPairsLeft-first form c.args.self.now ps (grind (arith, common_steps)) h in
          let same = BeginWith-unique _ _ _ _ _ _ _ _ _ _ c.in-Some.ensures first.begin in
          let same_value = BeginWith-unique _ _ _ _ _ _ _ _ _ _ c.in-Some-split_entry.ensures first.entry.begin in
          let item = c.in-Ok-from_content.ensures.decodes form first.value (rw (same_value.0, same_value.1) first.entry.part) in
          rw first.whole (
            c.in-Ok.ensures.cases.0 ∙ same.1,
            item,
            record {
              rest = first.rest;
              are_keys = first.are_keys;
              words = same.2;
              bytes = same.3;
              values = rw (same_value.2, same_value.3) first.entry.others;
            },
          );
      normal = c.in-Ok-from_content.ensures.normal;
    }

pub returns-in-Err-clause-steps : goal.returns-in-Err-clause-steps
returns-in-Err-clause-steps c =
    failed _ _ _ c.in-Err.ensures.errors
    (inr (_, _, _, record { key_kind = _; name = c.in-Some.ensures; value = c.in-Some-split_entry.ensures }, λ utf8 item. c.in-Err.ensures.reads item))
    (BeginWith-room _ _ _ _ _ _ c.in-Some-split_entry.ensures).1 (λ form ps h.
    let first = HasPairsLeft-first form c.args.self.now ps (grind (arith, common_steps)) h in
    let same = BeginWith-unique _ _ _ _ _ _ _ _ _ _ c.in-Some-split_entry.ensures first.entry.begin in
    c.in-Err.ensures.decodes form first.value (rw (same.0, same.1) first.entry.part))
