use Rattle.jsonb_doc.proofs.Lemmas.{[], ◌∷◌, ◌++◌, w32, w64, to_z-of_z, fixed_bytes, grown, grown_ok}
use Rattle.jsonb_doc.proofs.payload.push_interval.Goals as goal

pub returns-clause-pushed : goal.returns-clause-pushed
returns-clause-pushed c =
    let old = c.args.out.now.items in
    let months = fixed_bytes w32 c.args.months in
    let days = fixed_bytes w32 c.args.days in
    let months_fit = c.ranges.months in
    let days_fit = c.ranges.days in
    let micros_fit = c.ranges.micros in
    let two = grown old (0x40 ∷ []) months _ _ c.in_ok-push.ensures.items (simp to_z-of_z at c.in_ok-push_i32.ensures.pushed) in
    let three = grown old (0x40 ∷ months) days _ _ two (simp to_z-of_z at c.in_ok-push_i32-2.ensures.pushed) in
    grown_ok c.push_i64.result old (0x40 ∷ months ++ days) (fixed_bytes w64 c.args.micros) _ _ three (simp to_z-of_z at c.push_i64.ensures.pushed)
