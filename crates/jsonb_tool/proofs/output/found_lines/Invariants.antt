use Rattle.std.proofs.Common.{◌≡◌, All, flat_map, take, string_bytes}
use Rattle.jsonb.specs.Bytes.{AreBytes}
use Rattle.jsonb_tool.specs.Private.Lines.{document_line}
use Rattle.jsonb_tool.proofs.output.found_lines.Given as goal

abbrev pub invariant-loop-document : goal.invariant-loop-document
invariant-loop-document l =
    All AreBytes (take l.document-index l.documents)
    × (string_bytes l.lines ≡ flat_map document_line (take l.document-index l.documents))
