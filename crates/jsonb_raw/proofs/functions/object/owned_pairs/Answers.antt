use Rattle.jsonb_raw.proofs.Lemmas.{rules, false≢true, arith, ap, length, ◌≡◌, ◌++◌, [], ◌∷◌, string_bytes, IsPairOf, failed, none_made, one_made, pair_refused_in_list, others_hold, pair_taken, no_members, names_read, name_split, name_boundary, All-same, All-push, IsWholePair}
use Rattle.jsonb_raw.proofs.functions.object.owned_pairs.Goals as goal

pub returns-then-entry_count-eq0-clause-pairs : goal.returns-then-entry_count-eq0-clause-pairs
returns-then-entry_count-eq0-clause-pairs c = λ form ps h.
    rw (no_members form _ ps _ h c.entry_count.ensures c.if-entry_count-eq0.true, c.new.ensures.items) tt

pub returns-then-entry_count-eq0-clause-whole : goal.returns-then-entry_count-eq0-clause-whole
returns-then-entry_count-eq0-clause-whole c = λ k d below. absurd (omega (arith, below, ap length c.new.ensures.items))

pub returns-in_default-clause-pairs : goal.returns-in_default-clause-pairs
returns-in_default-clause-pairs c = λ form ps h. absurd (c.in_default.ensures.cases.0 (names_read form _ ps h))

pub loop-each-init : goal.loop-each-init
loop-each-init c = record {
  utf8 = search rules;
  whole = λ k d below. absurd (omega (arith, below, ap length c.in_ok-each.ensures.items));
  made = λ form ps h. (ps, h, none_made (IsPairOf string_bytes form) _ ps c.in_ok-each.ensures.items, c.in-Ok.ensures.cases.0);
}

pub returns-in_default-split_at_checked-clause-pairs : goal.returns-in_default-split_at_checked-clause-pairs
returns-in_default-split_at_checked-clause-pairs c = λ form ps h.
    let i = c.loop-each.invariant.made form ps h in
    let f = pair_taken form _ i.0 _ _ c.in-Some.is (c.in_ok-pair.ensures.first form _ i.1) in
    let there = c.split_at_checked.ensures.variant.1 (name_boundary form _ _ _ _ _ f.is_first i.3) in
    absurd (false≢true (rw c.in_default-split_at_checked.is at there))

pub loop-each-preserved : goal.loop-each-preserved
loop-each-preserved c =
    let added : c.push.new.self.items ≡ c.loop-each.each.items ++ c.in_ok-owned_pair.field-0 ∷ [] = c.in_ok-push.ensures.items in
    record {
      utf8 = search rules;
      whole = All-same IsWholePair _ _ added
          (All-push IsWholePair _ _ c.loop-each.invariant.whole c.in_ok-owned_pair.ensures.whole);
      made = λ form ps h.
          let i = c.loop-each.invariant.made form ps h in
          let f = pair_taken form _ i.0 _ _ c.in-Some.is (c.in_ok-pair.ensures.first form _ i.1) in
          let s = name_split form _ _ _ _ _ f.is_first i.3 _ _ c.in-Some-split_at_checked.ensures.front c.in-Some-split_at_checked.ensures.back in (
            f.rest,
            others_hold form _ _ f.rest _ f.is_first,
            one_made (IsPairOf string_bytes form) _ _ c.in_ok-owned_pair.field-0 (c.in-Some.pair.key.now, f.value) f.rest ps added
                (rw s.0 at (c.in_ok-owned_pair.ensures.pair form f.value f.is_first.value.part)) (rw f.split at i.2),
            s.1,
          );
    }

pub returns-in_err-owned_pair-clause-pairs : goal.returns-in_err-owned_pair-clause-pairs
returns-in_err-owned_pair-clause-pairs c = λ form ps h.
    let i = c.loop-each.invariant.made form ps h in
    let f = pair_taken form _ i.0 _ _ c.in-Some.is (c.in_ok-pair.ensures.first form _ i.1) in
    failed _ _ _ c.from_residual-in_err-owned_pair.ensures.1 (pair_refused_in_list form _ c.in-Some.pair.key.now f.value f.rest ps c.in_err-owned_pair.field-0.0 (rw f.split at i.2)
    (c.in_err-owned_pair.ensures.pair form f.value f.is_first.value.part))
