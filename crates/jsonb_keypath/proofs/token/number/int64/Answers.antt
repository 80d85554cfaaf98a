use Rattle.jsonb_keypath.proofs.Common.{◌≡◌, sym, ◌∙◌, ap, refl, w64, to_z, of_z, to_z-of_z, parsed_map, with_sign}
use Rattle.jsonb_keypath.proofs.NumberLemmas.{int64_read, is_within-decides, when_passes, when_not, when_none, not_true}
use Rattle.jsonb_keypath.proofs.token.number.int64.Goals as goal

pub returns-in_err-n-clause-value : goal.returns-in_err-n-clause-value
returns-in_err-n-clause-value c =
    let negative = c.read_sign-negative.result.0 in
    rw c.from_residual.ensures (sym (int64_read c.args.input.now c.read_sign-negative.result.1.now negative c.read_sign-negative.ensures.value
    ∙ when_none _ _ (ap (parsed_map (with_sign negative)) c.in_err-n.ensures.value)))

pub returns-in-Some-clause-value : goal.returns-in-Some-clause-value
returns-in-Some-clause-value c =
    let negative = c.read_sign-negative.result.0 in
    let z = with_sign negative c.in_ok-n.n in
    let fits = c.in-Some.ensures in
    let kept : to_z w64 (of_z w64 c.in-Some.value) ≡ z = rw fits.1 (to_z-of_z w64 z fits.0) in
    rw kept (sym (int64_read c.args.input.now c.read_sign-negative.result.1.now negative c.read_sign-negative.ensures.value
    ∙ when_passes _ _ z c.in_ok-n.rest.now (ap (parsed_map (with_sign negative)) c.in_ok-n.ensures.value)
    ((is_within-decides w64 9223372036854775808 z refl).1 fits.0)))

pub returns-in-None-clause-value : goal.returns-in-None-clause-value
returns-in-None-clause-value c =
    let negative = c.read_sign-negative.result.0 in
    let z = with_sign negative c.in_ok-n.n in
    sym (int64_read c.args.input.now c.read_sign-negative.result.1.now negative c.read_sign-negative.ensures.value
    ∙ when_not _ _ z c.in_ok-n.rest.now (ap (parsed_map (with_sign negative)) c.in_ok-n.ensures.value)
    (not_true _ (λ h. c.in-None.ensures ((is_within-decides w64 9223372036854775808 z refl).0 h))))
