use Rattle.jsonb_doc.proofs.Lemmas.{rules, ◌≡◌, ◌+◌, arith, sym, ap, ◌∙◌, length, Some, None, ◌↔◌, option_copied, false≢true, nat_tests, nil_from_length, length-append, common_steps, NumberReader, number_or_unsupported, HasContent, HasEntries, HasLarge, kind_number, Container, HasEntries-nil, HasEntries-empty, HasEntries-stop, HasEntries-step, has_content_lenient, halvings-more, halvings-fewer, Leaves-along, Leaves-entries, Leaves-good, Leaves-unsupported, IsValidationError-other, IsApart-within, IsApart-less, IsApart-one, same_kind, other_kind}
use Rattle.jsonb_doc.proofs.checking.+check.Goals.{check_entries-then-eq+then-entry-half, check_entries-else-eq+in-Ok, check_entries-else-eq+in-Err+in-UnsupportedNumber}
use Rattle.jsonb_doc.proofs.checking.+check.Goals as goal

pub check_container-check_entries-requires : goal.check_container-check_entries-requires
check_container-check_entries-requires c = search (rules, halvings-more)

pub check_container-returns-in_default-check_entries : goal.check_container-returns-in_default-check_entries
check_container-returns-in_default-check_entries t c = λ h.
    c.in_default-check_entries.ensures ((c.in-Some.ensures.same number_or_unsupported).0 (c.loop-words.invariant.left.lenient.0 h))

pub check_container-loop-words-preserved : goal.check_container-loop-words-preserved
check_container-loop-words-preserved t c =
    let inv = c.loop-words.invariant in
    let parts = c.in-Some.ensures in
    let found = rw c.in-Some-large.is at c.in-Some-check_entries.ensures in
    record {
      shorter = omega (arith, found.0, parts.shorter, inv.shorter);
      left = Leaves-entries _ _ _ _ _ _ (Some c.in-Some-large.large.now) inv.left parts found.1;
    }

pub check_container-returns-then-is_supported : goal.check_container-returns-then-is_supported
check_container-returns-then-is_supported t c =
    let all = Leaves-entries _ _ _ _ _ _ None c.loop-words.invariant.left c.in-Some.ensures (rw c.in_default-large.is at c.in-Some-check_entries.ensures).1 in
    all.strict.1 (c.if-is_supported.true, tt)

pub check_container-returns-else-is_supported : goal.check_container-returns-else-is_supported
check_container-returns-else-is_supported t c =
    let all = Leaves-entries _ _ _ _ _ _ None c.loop-words.invariant.left c.in-Some.ensures (rw c.in_default-large.is at c.in-Some-check_entries.ensures).1 in
    (λ h. let both = (all.strict.0 h).0 in absurd (false≢true (sym c.if-is_supported.false ∙ both)), all.lenient.1 tt)

pub check_entries-returns-in_default : goal.check_entries-returns-in_default
check_entries-returns-in_default t c = λ h.
    HasEntries-stop number_or_unsupported _ _ (grind (arith, common_steps)) c.in_default.ensures (c.loop-words_left.invariant.left.lenient.0 h).1

-- what is not a container makes no more calls
pub check_entries-check_content-requires : goal.check_entries-check_content-requires
check_entries-check_content-requires c = grind (arith, halvings-fewer, same_kind, nat_tests, other_kind)

pub check_entries-returns-in_default-error : goal.check_entries-returns-in_default-error
check_entries-returns-in_default-error t c = λ h.
    IsValidationError-other
    (HasContent (kind_number c.in-Some.entry.kind) c.in-Some.entry.content.now) c.in-Err.error c.in_default-error.not-UnsupportedNumber c.in-Err.ensures
    ((HasEntries-step number_or_unsupported _ _ _ _ _ _ c.in-Some.ensures).0 (c.loop-words_left.invariant.left.lenient.0 h).1).0

pub check_entries-loop-words_left-preserved : goal.check_entries-loop-words_left-preserved
check_entries-loop-words_left-preserved t c =
    let inv = c.loop-words_left.invariant in
    let b = c.in-Some.ensures in
    let content = c.in-Some.entry.content.now in
    let others = c.in-Some.entry.other_contents.now in
    let large = option_copied c.loop-words_left.large in
    let len : length c.loop-words_left.contents_left.now ≡ length content + length others = ap length b.contents_joined ∙ length-append content others in
    let split : (r : NumberReader) → (HasLarge large r × HasEntries c.loop-words_left.words_left.now c.loop-words_left.contents_left.now r)
    ↔ (HasContent (kind_number c.in-Some.entry.kind) content r × (HasLarge large r × HasEntries c.in-Some.entry.other_words.now others r)) = λ r.
    let step = HasEntries-step r _ _ _ _ _ _ b in
    (λ h. let k = step.0 h.1 in (k.0, (h.0, k.1)), λ h. (h.1.0, step.1 (h.0, h.1.1))) in
    elim c.if-eq.branch [
      | check_entries-then-eq+then-entry-half w ↦
          let none = IsApart-one large _ _ content inv.apart (omega (arith, len)) w.if-entry-half.true in
          let within = IsApart-within large _ _ inv.apart in
          rw (w.is_supported-is, w.large-is) (record {
            apart = (w.if-entry-half.true, omega (arith, len, within));
            left = Leaves-along _ _ _ _ (λ r.
                let step = rw (same_kind _ _ Container c.eq.ensures w.if-eq.true) at (HasEntries-step r _ _ _ _ _ _ b) in
                (λ h. step.0 h.1, λ h. (rw none tt, step.1 h))) inv.left;
          })
      | check_entries-else-eq+in-Ok w ↦ rw (w.is_supported-is, w.large-is) (record {
        apart = IsApart-less large _ others _ (omega (arith, len)) inv.apart;
        left = Leaves-good _ _ _ _ _ inv.left split w.in-Ok.ensures (has_content_lenient _ _ w.in-Ok.ensures);
      })
      | check_entries-else-eq+in-Err+in-UnsupportedNumber w ↦
          let refused = rw w.in-UnsupportedNumber.is at w.in-Err.ensures in
          rw (w.is_supported-is, w.large-is) (record {
            apart = IsApart-less large _ others _ (omega (arith, len)) inv.apart;
            left = Leaves-unsupported _ _ _ _ _ inv.left split refused.0 refused.1;
          })
    ]

pub check_entries-returns-then-not-is_empty : goal.check_entries-returns-then-not-is_empty
check_entries-returns-then-not-is_empty t c = λ h.
    let none = HasEntries-empty number_or_unsupported _ _ (nil_from_length c.loop-words_left.words_left.now (grind (arith, common_steps)))
    (c.loop-words_left.invariant.left.lenient.0 h).1 in
    let zero : length c.loop-words_left.contents_left.now ≡ 0 = ap length none in
    grind (arith, common_steps)

pub check_entries-returns : goal.check_entries-returns
check_entries-returns t c = grind (arith, common_steps, Leaves-along, HasEntries-nil)
