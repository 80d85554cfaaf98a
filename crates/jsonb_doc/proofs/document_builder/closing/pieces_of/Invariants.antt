use Rattle.jsonb_doc.proofs.Lemmas.{◌≡◌, map, take, PieceEntry}
use Rattle.jsonb_doc.proofs.document_builder.closing.pieces_of.Given as goal

abbrev pub invariant-loop-entry : goal.invariant-loop-entry
invariant-loop-entry l = l.pieces.items ≡ map (λ (e : PieceEntry). e.piece) (take l.entry-index l.entries)
