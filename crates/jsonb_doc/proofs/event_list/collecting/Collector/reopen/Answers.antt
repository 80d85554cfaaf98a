use Rattle.jsonb_doc.proofs.Lemmas.{◌≡◌, ℕ, ◌++◌, ◌∷◌, [], ◌∙◌, ap, refl, sym, subst, List, append_assoc, None, same_from_push, appended, WaitsFor, AreAround, Run, Nested, Member, Frame, filled_frame, opened_around, same_run}
use Rattle.jsonb_doc.proofs.event_list.collecting.Collector.reopen.Goals as goal

pub returns-in_ok-push-in-Some-Nested : goal.returns-in_ok-push-in-Some-Nested
returns-in_ok-push-in-Some-Nested c = λ t level around h part.
    let b = c.args.self.now in
    let ds = b.ended.items in
    let popped = c.in-Some-Nested in
    let o = opened_around ds b.inner.kind b.unfinished.items level around h in
    let same = same_from_push c.pop.new.self.items (o.earlier ++ o.ms) popped.field-0 o.m (sym popped.ensures.items ∙ o.joined) in
    let is = popped.is in
    let field = popped.field-0-is in
    let part_is : popped.field-0.part ≡ Nested popped.outer = cc in
    let run = same_run popped.outer o.run popped.field-0.part part_is (ap (λ (m : Member). m.part) same.1 ∙ o.part) in
    let m : Member = record { key = popped.field-0.key; part = Nested c.args.run } in
    let f : Frame = record { kind = popped.outer.kind; start = popped.outer.first; key = None } in
    let waits = subst (λ (k : List ℕ). WaitsFor ds o.run.kind k o.ms level) (sym (ap (λ (m : Member). m.key.now) same.1)) o.waits in
    let filled = filled_frame ds f o.run.kind o.ms m level t (ap (λ (r : Run). r.kind) run) refl waits part in (
      record { inner = appended t level; around = around },
      (filled.0, refl),
      record {
        before = o.earlier;
        ms = o.ms ++ m ∷ [];
        joined = c.in_ok-push-in-Some-Nested.ensures.items ∙ ap (λ (ms : List Member). ms ++ m ∷ []) same.0 ∙ append_assoc o.earlier o.ms (m ∷ []);
        start = ap (λ (r : Run). r.first) run ∙ o.first;
        inner = filled.1;
        around = subst (λ (r : Run). AreAround ds r.kind o.earlier around) (sym run) o.around;
      },
    )
