use Rattle.jsonb.proofs.Lemmas.{◌≡◌, HasWritten, IsPlainFormatter, expression_view, below, fronts_text}
use Rattle.jsonb.proofs.path.display.write_fronts.Given as goal

-- as many are written as there were turns
abbrev pub invariant-loop : goal.invariant-loop
invariant-loop g l = record {
  reached : expression_view l.inner ≡ below l.counter (expression_view l.fn.chain);
  written : IsPlainFormatter l.initial.f → HasWritten g.W.Write.write_str_gives l.initial.f (fronts_text l.counter (expression_view l.fn.chain)) l.f;
}
