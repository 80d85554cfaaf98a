use Rattle.jsonb_doc.proofs.Lemmas.{◌≡◌, arith, refl, false≢true, deepest, any}
use Rattle.jsonb_doc.proofs.nesting.check_depth.Goals as goal

pub returns-then-branch-limit-clause-ok : goal.returns-then-branch-limit-clause-ok
returns-then-branch-limit-clause-ok c = (
  λ e. absurd (false≢true e),
  λ (t, decodes, fits).
      let same : c.in_ok-depth.field-0 ≡ deepest t = cc (c.in_ok-depth.ensures.depth any t decodes) in
      absurd (omega (arith, c.if-branch-limit.true)),
)

pub returns-then-branch-limit-clause-too_deep : goal.returns-then-branch-limit-clause-too_deep
returns-then-branch-limit-clause-too_deep c = (
  λ e.
      let (t, decodes) = c.in_ok-depth.ensures.ok.0 refl in
      let same : c.in_ok-depth.field-0 ≡ deepest t = cc (c.in_ok-depth.ensures.depth any t decodes) in
      (t, decodes, omega (arith, c.if-branch-limit.true)),
  λ h. refl,
)

pub returns-else-branch-limit-clause-ok : goal.returns-else-branch-limit-clause-ok
returns-else-branch-limit-clause-ok c = (
  λ e.
      let (t, decodes) = c.in_ok-depth.ensures.ok.0 refl in
      let same : c.in_ok-depth.field-0 ≡ deepest t = cc (c.in_ok-depth.ensures.depth any t decodes) in
      (t, decodes, omega (arith, c.if-branch-limit.false)),
  λ h. refl,
)

pub returns-else-branch-limit-clause-too_deep : goal.returns-else-branch-limit-clause-too_deep
returns-else-branch-limit-clause-too_deep c = (
  λ e. absurd (cc (e)),
  λ (t, decodes, deeper).
      let same : c.in_ok-depth.field-0 ≡ deepest t = cc (c.in_ok-depth.ensures.depth any t decodes) in
      absurd (omega (arith, c.if-branch-limit.false)),
)
