use Rattle.jsonb_doc.proofs.Lemmas.{◌++◌, ◌∷◌, [], ◌∙◌, List, ap, refl, sym, subst, append_assoc, appended, AreAround, HeaderKind, Member, filled_frame}
use Rattle.jsonb_doc.proofs.event_list.collecting.Collector.add.Goals as goal

pub returns : goal.returns
returns c = λ s t h part.
    let b = c.args.self.now in
    let key = c.in-Some.ensures in
    let waits = key.waits b.ended.items h.ms s.inner h.inner in
    let m : Member = record { key = c.in-Some.key; part = c.args.part } in
    let filled = filled_frame b.ended.items c.take_key.new.self b.inner.kind h.ms m s.inner t key.kept.0 (key.taken b.ended.items h.ms s.inner h.inner) waits part in (
      record { inner = appended t s.inner; around = s.around },
      (filled.0, refl),
      record {
        before = h.before;
        ms = h.ms ++ m ∷ [];
        joined = c.in_ok-push.ensures.items ∙ ap (λ (ms : List Member). ms ++ m ∷ []) h.joined ∙ append_assoc h.before h.ms (m ∷ []);
        start = key.kept.1 ∙ h.start;
        inner = filled.1;
        around = subst (λ (kind : HeaderKind). AreAround b.ended.items kind h.before s.around) (sym key.kept.0) h.around;
      },
    )
