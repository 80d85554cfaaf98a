use Rattle.jsonb_raw.proofs.Lemmas.{◌++◌, ap₂, arith, to_le_bytes, w64, packed_behind}
use Rattle.jsonb_raw.proofs.packed.PackedBytes.prepend.Goals as goal

pub returns-clause-bytes : goal.returns-clause-bytes
returns-clause-bytes c =
    packed_behind c.args.self.len c.args.byte _ (to_le_bytes w64 c.args.self.first ++ to_le_bytes w64 c.args.self.second) (omega arith)
    (ap₂ (λ xs ys. xs ++ ys) c.prepend_byte.ensures c.prepend_byte-2.ensures)
