use Rattle.std.proofs.Common.{List, Option, drop}
use Rattle.std.specs.List.{AllZip}
use Rattle.jsonb_doc.specs.Payload.{Form}
use Rattle.jsonb_doc.specs.Tree.{Tree}
use Rattle.jsonb_raw.proofs.ColumnLemmas.{KeyLeft}
use Rattle.jsonb_c.specs.Calls.{width_of}
use Rattle.jsonb_c.specs.Making.{IsValueOf}
use Rattle.jsonb_c.proofs.document.composite_key.composite_key.Given as goal

-- what is written, followed by the keys of the rows that are left, is the whole
abbrev pub invariant-loop-index : goal.invariant-loop-index
invariant-loop-index l = (form : Form) (values : List (Option Tree)) → AllZip (IsValueOf form) l.column values
    → (rest : List (Option Tree)) × AllZip (IsValueOf form) (drop l.index l.column) rest × KeyLeft (width_of l.wide) l.key.items rest values
