use Rattle.jsonb_c.proofs.BuilderLemmas.{follows, status_kept}
use Rattle.jsonb_c.proofs.builder.events.add_to.Goals as goal

pub returns-in-Events-clause-follows : goal.returns-in-Events-clause-follows
returns-in-Events-clause-follows c = λ form e is.
    rw c.in-Events.is (follows form e _ c.pass.new.builder c.pass.result c.status_of_event.result c.status_of_event.ensures
    (λ s held. c.pass.ensures.takes form s e held is))

pub returns-in-Events-clause-kept : goal.returns-in-Events-clause-kept
returns-in-Events-clause-kept c = λ form s h fails.
    let held = rw c.in-Events.is at h in
    status_kept c.pass.result c.status_of_event.result _ c.status_of_event.ensures (c.pass.ensures.kept form s held) fails
