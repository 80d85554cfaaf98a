use Rattle.jsonb.proofs.Lemmas.{take, flat_map, HasWritten, IsPlainFormatter, other_entry_text}
use Rattle.jsonb.proofs.path.display.write_others.Given as goal

-- the entries before the index are written
abbrev pub invariant-loop-entry : goal.invariant-loop-entry
invariant-loop-entry g l =
    IsPlainFormatter l.initial.f → HasWritten g.W.Write.write_str_gives l.initial.f (flat_map other_entry_text
    (take l.entry-index l.entries)) l.f
