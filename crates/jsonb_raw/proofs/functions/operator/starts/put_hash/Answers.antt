use Rattle.jsonb_raw.proofs.Common.{length-set}
use Rattle.jsonb_raw.proofs.PartedRuns.{hint_kept}
use Rattle.jsonb_raw.proofs.functions.operator.starts.put_hash.Goals as goal

pub returns-clause-hints : goal.returns-clause-hints
returns-clause-hints c = λ all h.
    let marked = hint_kept all c.args.slots.now c.marked_slot-slot.result _ h (h c.marked_slot-slot.result _ c.marked_slot-slot.ensures) in
    hint_kept all _ c.chosen_slot-chosen.result _ marked (marked c.chosen_slot-chosen.result _ (simp length-set c.chosen_slot-chosen.ensures))
