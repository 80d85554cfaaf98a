use Rattle.jsonb_doc.proofs.Lemmas.{ap, refl, Some, option_copied, object_of, Frame, named_frame}
use Rattle.jsonb_doc.proofs.event_list.collecting.Collector.key.Goals as goal

pub returns-in-Object-None : goal.returns-in-Object-None
returns-in-Object-None c = λ keep_last s h.
    let b = c.args.self.now in
    let f : Frame = record { kind = b.inner.kind; start = b.inner.start; key = Some c.args.key } in
    let named = named_frame b.ended.items b.inner f h.ms c.args.key.now s.inner c.in-Object-None.is-0 (ap option_copied c.in-Object-None.is-1) refl refl h.inner in (
      record { inner = object_of named.0 (Some c.args.key.now); around = s.around },
      (named.0, named.1, refl),
      record { before = h.before; ms = h.ms; joined = h.joined; start = h.start; inner = named.2; around = h.around },
    )
