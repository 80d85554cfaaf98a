use Rattle.std.proofs.Common.{◌≡◌, All, flat_map, take, string_bytes}
use Rattle.jsonb.specs.Bytes.{AreBytes}
use Rattle.jsonb_tool.specs.Private.Lines.{leaf_line}
use Rattle.jsonb_tool.proofs.output.leaf_lines.Given as goal

abbrev pub invariant-loop-path : goal.invariant-loop-path
invariant-loop-path l =
    All (λ leaf. AreBytes leaf.1) (take l.path-index l.leaves)
    × (string_bytes l.lines ≡ flat_map leaf_line (take l.path-index l.leaves))
