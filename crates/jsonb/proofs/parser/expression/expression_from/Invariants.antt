use Rattle.jsonb.proofs.Lemmas.{◌≡◌, None, partial_outcome, opening_outcome, opening_size, resumed, IsPartial, IsOpening, AreFrames}
use Rattle.jsonb.proofs.parser.expression.expression_from.Given as goal

-- what is open makes the whole of what its innermost expression makes of the atom that is read, or opened
abbrev pub invariant-loop-opening : goal.invariant-loop-opening
invariant-loop-opening l = record {
  read : resumed l.frames.items (partial_outcome l.partial (opening_outcome l.partial.is_in_filter l.opening)) ≡ partial_outcome
      (record { is_in_filter = l.fn.is_in_filter; all = None; any = None }) (opening_outcome l.fn.is_in_filter l.fn.first);
  frames : AreFrames l.frames.items;
  partial : IsPartial l.partial;
  opening : IsOpening l.opening;
}

abbrev pub decreases-loop-opening : goal.decreases-loop-opening
decreases-loop-opening l = opening_size l.opening
