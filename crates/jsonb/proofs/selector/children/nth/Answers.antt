use Rattle.jsonb.proofs.Lemmas.{[], Ok, ap, sym, ◌∙◌, refl, cons_option, no_refusal, same_outcome, spot_first, spot_end, get_first, get_further, get_none}
use Rattle.jsonb.proofs.selector.children.nth.Goals as goal

pub loop-element-init : goal.loop-element-init
loop-element-init c = λ bytes ts h. (ts, rw (sym c.into_iter-element-iterator.ensures.into_iter_gives) at h, refl)

pub returns-in_err-element-clause-meant : goal.returns-in_err-element-clause-meant
returns-in_err-element-clause-meant c = λ bytes ts h.
    let inv = c.loop-element.invariant bytes ts h in
    absurd (no_refusal bytes inv.0 c.in-Some.element _ c.next.new.self c.in_err-element.was (c.in-Some.ensures.steps.takes bytes inv.0 inv.1))

pub returns-then-before-eq0-clause-meant : goal.returns-then-before-eq0-clause-meant
returns-then-before-eq0-clause-meant c = λ bytes ts h.
    let inv = c.loop-element.invariant bytes ts h in
    let k = spot_first bytes c.in_ok-element.was c.in-Some.ensures.steps inv.0 inv.1 in
    same_outcome (ap (λ o. Ok (cons_option o [])) (sym inv.2 ∙ get_first inv.0 k.first k.others c.loop-element.before k.whole c.if-before-eq0.true))
    (record { ok = (k.holds, tt); err = tt })

pub loop-element-preserved : goal.loop-element-preserved
loop-element-preserved c = λ bytes ts h.
    let inv = c.loop-element.invariant bytes ts h in
    let k = spot_first bytes c.in_ok-element.was c.in-Some.ensures.steps inv.0 inv.1 in
    (k.others, k.left, get_further inv.0 k.first k.others c.loop-element.before k.whole c.if-before-eq0.false ∙ inv.2)

pub returns-clause-meant : goal.returns-clause-meant
returns-clause-meant c = λ bytes ts h.
    let inv = c.loop-element.invariant bytes ts h in
    let none = spot_end bytes c.in-None.ensures.steps inv.0 inv.1 in
    same_outcome (ap (λ o. Ok (cons_option o [])) (sym inv.2 ∙ get_none inv.0 c.loop-element.before none)) (record { ok = tt; err = tt })
