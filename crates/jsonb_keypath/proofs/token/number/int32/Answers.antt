use Rattle.jsonb_keypath.proofs.Common.{◌≡◌, sym, ◌∙◌, refl, w64, w32, FitsSigned, to_z, of_z, to_z-of_z}
use Rattle.jsonb_keypath.proofs.NumberLemmas.{int32_read, int64_kept, is_within-decides, when_passes, when_not, when_none, not_true}
use Rattle.jsonb_keypath.proofs.token.number.int32.Goals as goal

pub returns-in_err-wide-clause-value : goal.returns-in_err-wide-clause-value
returns-in_err-wide-clause-value c = rw c.from_residual.ensures (sym (int32_read c.args.input.now ∙ when_none _ _ c.in_err-wide.ensures.value))

pub returns-in-Ok-clause-value : goal.returns-in-Ok-clause-value
returns-in-Ok-clause-value c =
    let z = c.in_ok-wide.wide in
    let same : to_z w64 (of_z w64 z) ≡ z = int64_kept c.args.input.now z c.in_ok-wide.rest.now c.in_ok-wide.ensures.value in
    let fits : FitsSigned w32 z = rw same at c.in-Ok.ensures.0 in
    let kept : to_z w32 (of_z w32 c.in-Ok.value) ≡ z = rw (c.in-Ok.ensures.1, same) (to_z-of_z w32 z fits) in
    rw kept (sym (int32_read c.args.input.now
    ∙ when_passes _ _ z c.in_ok-wide.rest.now c.in_ok-wide.ensures.value ((is_within-decides w32 2147483648 z refl).1 fits)))

pub returns-in-Err-clause-value : goal.returns-in-Err-clause-value
returns-in-Err-clause-value c =
    let z = c.in_ok-wide.wide in
    let same : to_z w64 (of_z w64 z) ≡ z = int64_kept c.args.input.now z c.in_ok-wide.rest.now c.in_ok-wide.ensures.value in
    sym (int32_read c.args.input.now ∙ when_not _ _ z c.in_ok-wide.rest.now c.in_ok-wide.ensures.value
    (not_true _ (λ h. c.in-Err.ensures (rw same ((is_within-decides w32 2147483648 z refl).0 h)))))
