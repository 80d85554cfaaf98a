use Rattle.jsonb_raw.proofs.Lemmas.{◌≡◌, ◌||◌, ℕ, List, refl, sym, ◌∙◌, or_false, is_in, is_one_of, SomeTexts-first, SomeTexts-none, text_added}
use Rattle.jsonb_raw.proofs.functions.path.exists_in.text_set.Goals as goal

pub loop-table-init : goal.loop-table-init
loop-table-init c = λ form ss h. record { strings = ss; left = h; fact = λ q. rw c.new-table.ensures.empty refl }

pub returns-in_err-text-clause-texts : goal.returns-in_err-text-clause-texts
returns-in_err-text-clause-texts c = λ form ss h.
    let some = c.loop-table.invariant form ss h in absurd (c.in_err-text.ensures.takes form some.strings some.left)

pub loop-table-preserved : goal.loop-table-preserved
loop-table-preserved c = λ form ss h.
    SomeTexts-first form _ _ (λ left. (q : List ℕ) → (is_in c.loop-table.table q || is_one_of left q) ≡ is_one_of ss q)
    (c.loop-table.invariant form ss h) _ (c.in_ok-text.ensures.takes form) c.in-Some.text c.in-Some.is
    (λ rest left fact. record {
      strings = rest;
      left = left;
      fact = λ q. text_added c.loop-table.table _ c.in-Some.text.now rest q _
          (c.in_ok-insert.ensures.updates.0 (record { ref_ptr = c.in-Some.text.ref_ptr; now = q })) (fact q);
    })

pub returns-clause-texts : goal.returns-clause-texts
returns-clause-texts c = λ form ss h q.
    sym (or_false (is_in c.loop-table.table q))
    ∙ SomeTexts-none form _ _ (λ left. (q : List ℕ) → (is_in c.loop-table.table q || is_one_of left q) ≡ is_one_of ss q)
    (c.loop-table.invariant form ss h) _ (c.in_ok-text.ensures.takes form) c.in_default.is q
