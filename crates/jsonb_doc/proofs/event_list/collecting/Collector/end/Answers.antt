use Rattle.jsonb_doc.proofs.Lemmas.{◌≡◌, ◌∙◌, ◌∷◌, List, ap, sym, subst, arith, take, rules, overwrites, take_at, Level, State, ends, HoldsFrame, LeadsTo, AreAround, Member, innermost_is, none_of, ends_around, around_stay, end_event_due, outer_due, result_along, err_is}
use Rattle.jsonb_doc.proofs.event_list.collecting.Collector.end.Goals as goal

pub returns-then-is_some : goal.returns-then-is_some
returns-then-is_some c = grind arith

pub returns-in_err-run : goal.returns-in_err-run
returns-in_err-run c = λ s h.
    let b = c.args.self.now in
    let none = none_of b.inner.key (sym c.is_some.ensures ∙ c.if-is_some.false) in
    let members = innermost_is _ h.before h.ms _ _ (c.deref_mut.ensures.value ∙ h.joined) h.start (omega arith) in
    let due = c.in_err-run.ensures s.inner (subst (λ (ms : List Member). HoldsFrame b.ended.items b.inner ms s.inner) members h.inner) none in
    err_is _ _ _ _ c.from_residual.ensures.1 (end_event_due c.args.keep_last b s _ h due)

pub returns : goal.returns
returns c = λ s h.
    let b = c.args.self.now in
    let none = none_of b.inner.key (sym c.is_some.ensures ∙ c.if-is_some.false) in
    let joined = c.deref_mut.ensures.value ∙ h.joined in
    let members = innermost_is _ h.before h.ms _ _ joined h.start (omega arith) in
    let end = c.in_ok-run.ensures s.inner (subst (λ (ms : List Member). HoldsFrame b.ended.items b.inner ms s.inner) members h.inner) none in
    let kept : c.truncate.new.self.items ≡ take b.inner.start c.deref_mut.result.now = search (rules, overwrites) in
    let before = kept ∙ ap (take b.inner.start) joined ∙ take_at h.before h.ms b.inner.start (sym h.start) in
    let outer = ends_around c.args.keep_last b.ended.items b.inner h.ms h.before s.inner end.t s.around end.ends_as h.inner h.around in
    let stays = around_stay b.ended.items end.more b.inner.kind h.before s.around h.around in
    let moved = subst (λ (ds : List Member). AreAround ds b.inner.kind h.before s.around) (sym end.joined) stays in
    let around = subst (λ (ls : List Level). AreAround c.finish_members.new.ended.items b.inner.kind h.before ls) outer.2 moved in
    result_along c.reopen.result _ _ _ _
    (c.reopen.ensures end.t outer.0 outer.1 (subst (λ (ms : List Member). AreAround c.finish_members.new.ended.items b.inner.kind ms (outer.0 ∷ outer.1)) (sym before) around)
    end.part)
    (λ u x. (x.0, (end.t, outer.0, outer.1, end.ends_as, outer.2, x.1), x.2)) (λ e. outer_due c.args.keep_last (λ last. (after : State) → LeadsTo last ends s after → ⊥) c.finish_members.new.ended.items b.inner.kind h.before end.t outer.0 outer.1 e around)
