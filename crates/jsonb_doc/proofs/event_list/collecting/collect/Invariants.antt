use Rattle.jsonb_doc.proofs.Lemmas.{◌≡◌, List, ◌++◌, length, shadow, Utf8, State, no_events, Happen, HoldsState, TextEvent}
use Rattle.jsonb_doc.proofs.event_list.collecting.collect.Given as goal

-- the events before those that are left lead to what is held
abbrev pub invariant-loop-left : goal.invariant-loop-left
invariant-loop-left l = record {
  utf8 : shadow (Utf8 l.rest);
  leads : (s : State) × HoldsState l.collector s × (before : List TextEvent) × (l.events ≡ before ++ l.left)
      × Happen l.keep_last before l.text no_events l.rest s;
}

abbrev pub decreases-loop-left : goal.decreases-loop-left
decreases-loop-left l = length l.left
