use Rattle.jsonb_doc.proofs.Lemmas.{[], ◌∷◌, w32, w64, to_z-of_z, fixed_bytes, grown, grown_ok}
use Rattle.jsonb_doc.proofs.payload.push_timestamp_tz.Goals as goal

pub returns-clause-pushed : goal.returns-clause-pushed
returns-clause-pushed c =
    let old = c.args.out.now.items in
    let offset = fixed_bytes w32 c.args.offset in
    let offset_fits = c.ranges.offset in
    let value_fits = c.ranges.value in
    let two = grown old (0x30 ∷ []) offset _ _ c.in_ok-push.ensures.items (simp to_z-of_z at c.in_ok-push_i32.ensures.pushed) in
    grown_ok c.push_i64.result old (0x30 ∷ offset) (fixed_bytes w64 c.args.value) _ _ two (simp to_z-of_z at c.push_i64.ensures.pushed)
