use Rattle.jsonb_raw.proofs.Lemmas.{arith, refl, sym, ◌∙◌, count_short, zero_passed, significant_whole}
use Rattle.jsonb_raw.proofs.key_bytes.short_without_zeros.Goals as goal

pub loop-left-init : goal.loop-left-init
loop-left-init c = record { same = refl; count = omega arith; few = count_short c.args.n (omega arith) }

pub loop-left-preserved : goal.loop-left-preserved
loop-left-preserved c = zero_passed _ c.loop-left.left _ c.loop-left.count _ c.loop-left.invariant (omega arith) refl (omega arith)

pub returns-then-left-ne0-clause-digits : goal.returns-then-left-ne0-clause-digits
returns-then-left-ne0-clause-digits c = sym (significant_whole c.loop-left.left c.if-left-ne0.true) ∙ c.loop-left.invariant.same

pub returns-clause-digits : goal.returns-clause-digits
returns-clause-digits c = grind arith
