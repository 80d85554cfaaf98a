use Rattle.jsonb_doc.proofs.Lemmas.{◌++◌, ◌∷◌, [], ◌∙◌, List, ap, refl, sym, length, arith, None, append-nil, Run, Nested, Member, Frame, waits_takes}
use Rattle.jsonb_doc.proofs.event_list.collecting.Collector.begin.Goals as goal

pub returns : goal.returns
returns c = λ s level h some empty.
    let b = c.args.self.now in
    let ds = b.ended.items in
    let key = c.in-Some.ensures in
    let frame = c.take_key.new.self in
    let waits = key.waits ds h.ms s.inner h.inner in
    let outer : Run = record { kind = frame.kind; first = frame.start; end = 0 } in
    let m : Member = record { key = c.in-Some.key; part = Nested outer } in
    let before = (h.before ++ h.ms) ++ m ∷ [] in
    let pushed = c.in_ok-push.ensures.items ∙ ap (λ (ms : List Member). ms ++ m ∷ []) h.joined in
    let inner : Frame = record { kind = c.args.kind; start = c.len.result; key = None } in (
      record { inner = level; around = s.inner ∷ s.around },
      (waits_takes ds b.inner.kind c.in-Some.key.now h.ms s.inner waits, refl),
      record {
        before = before;
        ms = [];
        joined = pushed ∙ sym (append-nil before);
        start = omega (arith, c.len.ensures, ap (λ (ms : List Member). length ms) pushed);
        inner = empty ds inner refl refl;
        around = grind (arith, key.kept.1 ∙ h.start, rw (← key.kept.0) at waits, rw (← key.kept.0) at h.around);
      },
    )
