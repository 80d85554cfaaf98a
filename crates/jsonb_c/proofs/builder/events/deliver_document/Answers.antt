use Rattle.std.proofs.Common.{Ok, Err, refl, ◌∙◌}
use Rattle.jsonb_doc.specs.Events.{whole}
use Rattle.jsonb_c.proofs.BuilderLemmas.{finish_fails, finish_writes, keeps_no_other}
use Rattle.jsonb_c.proofs.builder.events.deliver_document.Goals as goal

pub returns-in-Ok : goal.returns-in-Ok
returns-in-Ok c = record {
  document = λ form s h.
      let held = rw c.in-Events.is at h in
      let written = rw c.deref.ensures.value at c.deliver_bytes.ensures in
      finish_writes form (whole s.inner) (Ok c.in-Ok.document) c.in-Ok.document _ _ _ _ refl (c.in-Ok.ensures form s held) written;
  other = λ k. absurd (keeps_no_other (rw c.in-Events.is at k));
}

pub returns-in-Err : goal.returns-in-Err
returns-in-Err c = record {
  document = λ form s h.
      let held = rw c.in-Events.is at h in
      finish_fails form (whole s.inner) (Err c.in-Err.error) c.in-Err.error _ _ _ refl (c.in-Err.ensures form s held)
      c.deliver_nothing-in-Err.ensures.len (c.deliver_nothing-in-Err.ensures.status ∙ c.cause_of.ensures);
  other = λ k. absurd (keeps_no_other (rw c.in-Events.is at k));
}
