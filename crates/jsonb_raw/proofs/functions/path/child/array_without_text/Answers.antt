use Rattle.jsonb_raw.proofs.Lemmas.{rules, ◌≡◌, true, false, not, filter, refl, sym, ◌∙◌, elements, is_text, front_whole, failed, SomeElements-error, SomeElements-none, elements_pushed, elements_refused, elements_skipped}
use Rattle.jsonb_raw.proofs.functions.path.child.array_without_text.Goals as goal

pub returns-in_err-elements-clause-deleted : goal.returns-in_err-elements-clause-deleted
returns-in_err-elements-clause-deleted c = λ form ts d. absurd (c.in_err-elements.ensures.decodes form ts d)

pub returns-in_err-element-clause-deleted : goal.returns-in_err-element-clause-deleted
returns-in_err-element-clause-deleted c = λ form ts d.
    absurd (SomeElements-error form _ _ _ _ _ c.in_err-element.was c.in-Some.ensures.steps (c.loop-element.invariant form ts d))

pub loop-element-preserved-in_ok-push_item : goal.loop-element-preserved-in_ok-push_item
loop-element-preserved-in_ok-push_item c = λ form ts d.
    elements_pushed form (λ left. filter (λ t. not (is_text c.args.name.now t)) (elements left)) _ _ _ _ _ _ c.in_ok-element.was c.in-Some.ensures.steps
    (c.loop-element.invariant form ts d) (λ t. t) _
    (λ t rest stands. let other : is_text c.args.name.now t ≡ false = sym (c.is_text.ensures form t stands) ∙ c.if-not-is_text.true in rw other refl)
    (λ t held stands holds. c.in_ok-push_item.ensures.pushed form held t holds stands)

pub returns-in_err-push_item-clause-deleted : goal.returns-in_err-push_item-clause-deleted
returns-in_err-push_item-clause-deleted c = λ form ts d.
    failed _ _ _ c.from_residual-in_err-push_item.ensures.1 (elements_refused form (λ left. filter (λ t. not (is_text c.args.name.now t)) (elements left))
    (filter (λ t. not (is_text c.args.name.now t)) (elements ts)) _ _ _ _ _ c.in_ok-element.was c.in-Some.ensures.steps
    (c.loop-element.invariant form ts d) (λ t. t) c.in_err-push_item.field-0.0
    (λ t rest stands. let other : is_text c.args.name.now t ≡ false = sym (c.is_text.ensures form t stands) ∙ c.if-not-is_text.true in rw other refl)
    (λ t held stands holds. c.in_err-push_item.ensures.pushed form held t holds stands))

pub loop-element-preserved : goal.loop-element-preserved
loop-element-preserved c = λ form ts d.
    elements_skipped form (λ left. filter (λ t. not (is_text c.args.name.now t)) (elements left)) _ _ _ _ _ _ c.in_ok-element.was c.in-Some.ensures.steps
    (c.loop-element.invariant form ts d)
    (λ t rest stands. let same : is_text c.args.name.now t ≡ true = sym (c.is_text.ensures form t stands) ∙ c.if-not-is_text.false in rw same refl)

pub returns-clause-deleted : goal.returns-clause-deleted
returns-clause-deleted c = search (rules, front_whole, SomeElements-none)
