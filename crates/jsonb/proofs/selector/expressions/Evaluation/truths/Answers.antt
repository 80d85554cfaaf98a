use Rattle.std.specs.List.{AllByRecursion}
use Rattle.jsonb.proofs.Lemmas.{nil_from_length, arith, IsSoundFrame, ◌∙◌, sym, ap, subst, reverse, truth, expression_view, HasTree, TruthsLead, AllZip, IsAt, node_spots, Aim, AreTruths, truths_as, frames_reversed, all_last}
use Rattle.jsonb.proofs.selector.expressions.Evaluation.truths.Goals as goal

pub returns-in-None-clause-meant : goal.returns-in-None-clause-meant
returns-in-None-clause-meant c = λ top ts has at none.
    let on = c.loop-turn.invariant.meant top ts has at none in
    let document = c.loop-turn.self.context.document in
    let l = rw c.in-Truths.is at on.leads in
    let frames = nil_from_length c.loop-turn.self.frames.items (omega (arith, c.in-None.ensures.cases.0, c.loop-turn.self.frames.ok.0)) in
    let end = subst (λ fs. TruthsLead (record { trees = ts; meant = truth c.args.self.now.context.mode (expression_view c.args.e.now) top })
    c.loop-turn.self.context top on.trees l.0 (reverse fs)) frames l.2 in
    let f = truth c.args.self.now.context.mode (expression_view c.args.e.now) top in (
      subst (λ us. AllZip (IsAt document) (node_spots c.loop-turn.self.items) us) end.0 on.items,
      truths_as l.0 f (λ t. sym (end.1 t)) c.in-Truths.truths ts (subst (λ us. AreTruths l.0 us c.in-Truths.truths) end.0 l.1),
    )

pub loop-turn-preserved-in_ok-turn-in-Ask : goal.loop-turn-preserved-in_ok-turn-in-Ask
loop-turn-preserved-in_ok-turn-in-Ask c = record {
  same = c.in_ok-turn-in-Ask.ensures.same ∙ c.loop-turn.invariant.same;
  meant = λ top ts has at none.
      let on = c.loop-turn.invariant.meant top ts has at none in
      c.in_ok-turn-in-Ask.ensures.meant _ top on.trees (subst (λ x. HasTree x.document top) (sym c.loop-turn.invariant.same) has) on.items (rw c.in-Ask.is at on.leads);
  sound = λ none. c.in_ok-turn-in-Ask.ensures.sound (c.loop-turn.invariant.sound none).1;
}

pub loop-turn-preserved-in_ok-turn-in-Walk : goal.loop-turn-preserved-in_ok-turn-in-Walk
loop-turn-preserved-in_ok-turn-in-Walk c = record {
  same = c.in_ok-turn-in-Walk.ensures.same ∙ c.loop-turn.invariant.same;
  meant = λ top ts has at none.
      let on = c.loop-turn.invariant.meant top ts has at none in
      c.in_ok-turn-in-Walk.ensures.meant _ top on.trees (subst (λ x. HasTree x.document top) (sym c.loop-turn.invariant.same) has) on.items (rw c.in-Walk.is at on.leads);
  sound = λ none.
      let s = c.loop-turn.invariant.sound none in
      let turn = rw c.in-Walk.is at s.0 in
      c.in_ok-turn-in-Walk.ensures.sound turn.0 turn.1 s.1;
}

pub loop-turn-preserved : goal.loop-turn-preserved
loop-turn-preserved c = record {
  same = c.in_ok-turn-in-Some.ensures.same ∙ c.loop-turn.invariant.same;
  meant = λ top ts has at none.
      let on = c.loop-turn.invariant.meant top ts has at none in
      let l = rw c.in-Truths.is at on.leads in
      let aim : Aim = record { trees = ts; meant = truth c.args.self.now.context.mode (expression_view c.args.e.now) top } in
      c.in_ok-turn-in-Some.ensures.meant l.0 aim top on.trees (subst (λ x. HasTree x.document top) (sym c.loop-turn.invariant.same) has) on.items (
        l.1,
        subst (λ fs. TruthsLead aim c.loop-turn.self.context top on.trees l.0 fs)
            (ap reverse c.in-Some.ensures.items ∙ frames_reversed c.pop.new.self.items c.in-Some.frame) l.2,
      );
  sound = λ none.
      let s = c.loop-turn.invariant.sound none in
      let all = all_last (IsSoundFrame c.loop-turn.self.context.mode) c.pop.new.self.items c.in-Some.frame
      (subst (AllByRecursion (IsSoundFrame c.loop-turn.self.context.mode)) c.in-Some.ensures.items s.1) in
      c.in_ok-turn-in-Some.ensures.sound all.1 (rw c.in-Truths.is at s.0) all.0;
}
