use Rattle.jsonb_raw.proofs.Lemmas.{◌≡◌, ◌+◌, ◌∙◌, refl, sym, ap, rules, arith, found_behind_both, both_other, both_further, position-cons, text_first}
use Rattle.jsonb_raw.proofs.ChildLemmas.{decided}
use Rattle.jsonb_raw.proofs.functions.path.child.position_ignoring_case.Goals as goal
use Rattle.jsonb_raw.proofs.functions.path.child.position_ignoring_case.Goals.{then-eq_ignore_ascii_case+else-eq, else-eq_ignore_ascii_case}

pub returns-then-eq-clause-position : goal.returns-then-eq-clause-position
returns-then-eq-clause-position c = λ form ks h.
    let i = c.loop-key.invariant.left form ks h in
    let f = text_first form _ i.0 _ _ _ c.in-Some.is (c.in_ok-key.ensures.first form _ i.1) in
    (grind (arith, position-cons, f.split, sym c.eq.ensures ∙ c.if-eq.true, i.2))

pub loop-key-preserved : goal.loop-key-preserved
loop-key-preserved c = record {
  bound = search rules;
  left = λ form ks h.
      let i = c.loop-key.invariant.left form ks h in
      let f = text_first form _ i.0 _ _ _ c.in-Some.is (c.in_ok-key.ensures.first form _ i.1) in
      let passed = c.loop-key.passed in
      let first = c.loop-key.in_other_case in
      let name = c.args.name.now in
      let case = decided c.in-Some.key.content.now name c.eq_ignore_ascii_case.result c.eq_ignore_ascii_case.ensures.test in
      let left : found_behind_both (passed + 1) c.if-eq_ignore_ascii_case.in_other_case name f.rest ≡ found_behind_both passed first name i.0 =
      elim c.if-eq_ignore_ascii_case.branch [
        | then-eq_ignore_ascii_case+else-eq w ↦ ap (λ o. found_behind_both (passed + 1) o name f.rest) (w.in_other_case-is ∙ w.or-in_other_case.ensures)
            ∙ both_other passed first name _ i.0 f.rest _ f.split (sym w.eq.ensures ∙ w.if-eq.false) (case ∙ w.if-eq_ignore_ascii_case.true) refl
        | else-eq_ignore_ascii_case w ↦ ap (λ o. found_behind_both (passed + 1) o name f.rest) w.in_other_case-is
            ∙ both_further passed first name _ i.0 f.rest _ f.split (case ∙ w.if-eq_ignore_ascii_case.false) refl
      ] in
      (f.rest, f.is_first.others_hold, left ∙ i.2);
}
