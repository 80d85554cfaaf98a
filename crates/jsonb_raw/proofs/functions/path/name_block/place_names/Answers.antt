use Rattle.jsonb_raw.proofs.Lemmas.{arith, rules, sym, subst, ⊎_elim, ◌∙◌, eq-or-lt_of_le, name_at, IsPlaced}
use Rattle.jsonb_raw.proofs.functions.path.name_block.place_names.Goals as goal

pub place_name-requires : goal.place_name-requires
place_name-requires c = search (rules, name_at)

pub loop-at-preserved : goal.loop-at-preserved
loop-at-preserved c = record {
  length = c.place_name.ensures.length ∙ c.loop-at.invariant.length;
  placed = λ k s less is. ⊎_elim
      (λ e. subst (IsPlaced c.args.names.now c.place_name.new.places) (sym (name_at c.args.names.now c.loop-at.at _ c.loop-at-test.true).1 ∙ (rw e at is).1)
      (c.place_name.ensures.placed (grind (arith, c.if-not-place_name.false))))
      (λ before. c.place_name.ensures.kept s (c.loop-at.invariant.placed k s before is)) (eq-or-lt_of_le (omega (arith, less)));
}

pub returns-clause-placed : goal.returns-clause-placed
returns-clause-placed c = λ all at s is. c.loop-at.invariant.placed at s (omega (arith, is.0, c.loop-at-test.false)) is
