use Rattle.std.proofs.Common.{◌≡◌, ◌+◌, ◌-◌, ◌++◌, ℕ, List, take, drop, length, refl, arith}
use Rattle.jsonb_c.proofs.Rows.{placed_both}
use Rattle.jsonb_c.proofs.deliver.write_both_at.Goals as goal

pub returns : goal.returns
returns c =
    let old = c.args.out.now in
    let start = c.args.at in
    let bytes = c.args.bytes.now in
    let others = c.args.others.now in
    let one : start + length bytes - start ≡ length bytes = omega arith in
    let two : start + length bytes + length others - (start + length bytes) ≡ length others = omega arith in
    rw (c.copy_from_slice.ensures.after, c.copy_from_slice-2.ensures.after, one, two)
    (placed_both start old _ _ bytes others (omega arith) refl refl)
