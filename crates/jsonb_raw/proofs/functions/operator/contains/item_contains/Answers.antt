use Rattle.jsonb_raw.proofs.Lemmas.{◌≡◌, inl, inr, sym, subst, IsOkAnd, arith, contains-extension, contains-array, contains-object, plain_item, array_contains_plain, extension_equals_no_plain, object_equals_no_plain}
use Rattle.jsonb_raw.proofs.functions.operator.contains.item_contains.Goals as goal

pub returns-in-Extension-clause-answer : goal.returns-in-Extension-clause-answer
returns-in-Extension-clause-answer c = λ form other_form x y stands means.
    let is = rw c.in-Extension.is at means in rw is (sym (contains-extension x _))

pub returns-in-Array-clause-answer : goal.returns-in-Array-clause-answer
returns-in-Array-clause-answer c = λ form other_form x y stands means.
    let answer = c.item_matches.ensures.answer form other_form x y stands means in
    elim c.in-Array.is [
      | inl h ↦
          let is = rw h.1 at means in
          rw is.1 (subst (λ a. IsOkAnd c.item_matches.result (λ b. b ≡ a)) (sym (contains-array x is.0)) (rw is.1 at answer))
      | inr h ↦
          let is = rw h.1 at means in
          rw is.1 (subst (λ a. IsOkAnd c.item_matches.result (λ b. b ≡ a)) (sym (contains-object x is.0)) (rw is.1 at answer))
    ]

pub returns-in-Array-item-clause-answer : goal.returns-in-Array-item-clause-answer
returns-in-Array-item-clause-answer c = λ form other_form x y stands means.
    let is = rw c.in-Array-item.is at stands in
    let plain = plain_item other_form c.args.wanted y means c.in_default.not-Extension c.in_default.not-Array c.in_default.not-Object in
    rw is.1 (subst (λ a. IsOkAnd c.element_matches.result (λ b. b ≡ a)) (array_contains_plain is.0 y plain)
    (c.element_matches.ensures.answer form other_form is.0 y is.2 means))

pub returns-in_default-item-clause-answer : goal.returns-in_default-item-clause-answer
returns-in_default-item-clause-answer c = λ form other_form x y stands means.
    let plain = plain_item other_form c.args.wanted y means c.in_default.not-Extension c.in_default.not-Array c.in_default.not-Object in
    subst (λ a. IsOkAnd c.items_equal.result (λ b. b ≡ a))
    (grind (arith, extension_equals_no_plain, object_equals_no_plain, stands, c.in_default-item.not-Array, plain))
    (c.items_equal.ensures.equal form other_form x y stands means)
