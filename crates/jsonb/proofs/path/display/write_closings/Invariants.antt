use Rattle.jsonb.proofs.Lemmas.{◌≡◌, List, ◌++◌, HasWritten, IsPlainFormatter, ℕ, expression_view, down, closing, down_of, seen, parts_of}
use Rattle.jsonb.proofs.path.display.write_closings.Given as goal

-- what is written so far, followed by what the next one and those below it give, is the whole
abbrev pub invariant-loop-next : goal.invariant-loop-next
invariant-loop-next g l =
    IsPlainFormatter l.initial.f → (text : List ℕ) × HasWritten g.W.Write.write_str_gives l.initial.f text l.f
    × (text ++ down_of closing (seen l.next) ≡ down closing (expression_view l.fn.expression))

abbrev pub decreases-loop-next : goal.decreases-loop-next
decreases-loop-next g l = parts_of (seen l.next)
