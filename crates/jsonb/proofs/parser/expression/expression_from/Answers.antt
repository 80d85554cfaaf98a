use Rattle.jsonb.proofs.Lemmas.{rules, ◌≡◌, ◌∙◌, ◌++◌, ◌∷◌, [], sym, ap, subst, arith, partial_outcome, opening_outcome, after_condition_outcome, resumed, IsPartial, IsOpening, AreFrames, Opening, at_start, inside-goes, none_open, resumed-push, frames-push, frames-pop}
use Rattle.jsonb.specs.declared.parser.expression.Frame.{Frame}
use Rattle.jsonb.proofs.parser.expression.expression_from.Goals as goal

pub loop-opening-init : goal.loop-opening-init
loop-opening-init c = search (rules, at_start)

pub returns-in-Nothing : goal.returns-in-Nothing
unfolding opening_outcome
returns-in-Nothing c = grind arith

pub loop-opening-preserved-in-Inside : goal.loop-opening-preserved-in-Inside
unfolding opening_outcome
loop-opening-preserved-in-Inside c =
    let frame : Frame = record { partial = c.loop-opening.partial; opened = c.in-Inside.opened } in
    let pushed : c.push.new.self.items ≡ c.loop-opening.frames.items ++ frame ∷ [] = c.in_ok-push-in-Inside.ensures.items in
    record {
      read = inside-goes c.loop-opening.frames.items c.push.new.self.items frame c.new-partial-in-Inside.result c.is_in_filter-is_in_filter.result
          c.in-Inside.inside.now c.in_ok-opening-in-Inside.opening pushed c.is_in_filter-is_in_filter.ensures c.new-partial-in-Inside.ensures
          c.in_ok-opening-in-Inside.ensures.value
          ∙ ap (λ (o : Opening). resumed c.loop-opening.frames.items (partial_outcome c.loop-opening.partial
          (opening_outcome c.loop-opening.partial.is_in_filter o))) (sym c.in-Inside.is)
          ∙ c.loop-opening.invariant.read;
      frames = subst AreFrames (sym pushed) (frames-push c.loop-opening.frames.items frame c.loop-opening.invariant.frames c.loop-opening.invariant.partial
          (subst IsOpening c.in-Inside.is c.loop-opening.invariant.opening));
      partial = subst IsPartial (sym c.new-partial-in-Inside.ensures) (tt, tt);
      opening = c.in_ok-opening-in-Inside.ensures.is_opening;
    }

pub loop-opening-preserved-in-Next : goal.loop-opening-preserved-in-Next
unfolding opening_outcome after_condition_outcome
loop-opening-preserved-in-Next c = grind arith

pub returns-in-None : goal.returns-in-None
unfolding opening_outcome after_condition_outcome resumed
returns-in-None c = grind (arith, none_open)

pub closed_at-requires : goal.closed_at-requires
closed_at-requires c = search (rules, frames-pop)

pub loop-opening-preserved : goal.loop-opening-preserved
unfolding opening_outcome after_condition_outcome
loop-opening-preserved c = grind (arith, resumed-push, frames-pop)
