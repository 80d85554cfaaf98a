use Rattle.jsonb.proofs.Lemmas.{inr, refl, sym, ◌∙◌, nil_from_length}
use Rattle.jsonb.proofs.selector.levels.keep_level.Goals as goal

pub returns-then-len-eq0-clause-kept : goal.returns-then-len-eq0-clause-kept
returns-then-len-eq0-clause-kept c = inr (
  refl,
  λ bytes ts left. nil_from_length ts (sym (c.len.ensures bytes ts left) ∙ c.if-len-eq0.true),
)
