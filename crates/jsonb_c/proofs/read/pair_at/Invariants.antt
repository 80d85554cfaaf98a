use Rattle.std.proofs.Common.{◌≡◌}
use Rattle.std.specs.Prelude.{slice_get}
use Rattle.jsonb_doc.specs.Tree.{Pairs, object, members}
use Rattle.jsonb_doc.specs.Payload.{Form}
use Rattle.jsonb_doc.specs.Format.{Decodes}
use Rattle.jsonb_raw.proofs.IteratorItems.{SomePairs}
use Rattle.jsonb_c.proofs.read.pair_at.Given as goal

-- the pair at the position is as far ahead among those that are left
abbrev pub invariant-loop-pair : goal.invariant-loop-pair
invariant-loop-pair l = (form : Form) (ps : Pairs) → Decodes form l.document (object ps)
    → SomePairs form l.pair-iterator (λ left. slice_get (members left) l.before ≡ slice_get (members ps) l.fn.index)
