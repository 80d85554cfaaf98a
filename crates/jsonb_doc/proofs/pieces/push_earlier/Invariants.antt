use Rattle.jsonb_doc.proofs.Lemmas.{◌≡◌, ◌++◌, take, earlier}
use Rattle.jsonb_doc.proofs.pieces.push_earlier.Given as goal

abbrev pub invariant-loop-index : goal.invariant-loop-index
invariant-loop-index l = l.stack.items ≡ l.fn.stack.items ++ earlier l.end (take l.index-index l.indices)
