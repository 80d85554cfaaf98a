use Rattle.jsonb_raw.proofs.Lemmas.{arith, sym, ◌∙◌, Container, same_kind, other_kind, failed, no_entry_left, entry_taken, scalar_kept, container_next, null_next, no_value_left}
use Rattle.jsonb_raw.proofs.functions.operator.stripping.put_scalars.Goals as goal

pub returns-in_err-entry-clause-put : goal.returns-in_err-entry-clause-put
returns-in_err-entry-clause-put c = λ form ts around whole h w.
    let o = c.loop-entry.invariant.values form ts around whole h w in
    absurd (c.in_err-entry.ensures.first form _ o.holding.left_hold)

pub returns-in_err-copy_run-clause-put : goal.returns-in_err-copy_run-clause-put
returns-in_err-copy_run-clause-put c = λ form ts around whole h w.
    let o = c.loop-entry.invariant.values form ts around whole h w in
    failed _ _ _ c.from_residual-in_err-copy_run.ensures.1 (c.in_err-copy_run.ensures.copied form o.here _ _ around whole o.holding o.writing)

pub returns-then-eq-clause-put : goal.returns-then-eq-clause-put
returns-then-eq-clause-put c = λ form ts around whole h w.
    let o = c.loop-entry.invariant.values form ts around whole h w in
    let f = entry_taken form _ o.trees _ _ _ c.in-Some.is (c.in_ok-entry.ensures.first form _ o.holding.left_hold) in
    let copied = c.in_ok-copy_run.ensures.copied form o.here _ _ around whole o.holding o.writing in
    container_next form c.args.left.is_object _ _ _ around whole o c.in-Some.entry _ f _ copied
    (same_kind _ c.in-Some.entry.kind Container c.eq.ensures c.if-eq.true)

pub loop-entry-preserved-else-eq : goal.loop-entry-preserved-else-eq
loop-entry-preserved-else-eq c = record {
  room = grind arith;
  values = λ form ts around whole h w.
      let o = c.loop-entry.invariant.values form ts around whole h w in
      let f = entry_taken form _ o.trees _ _ _ c.in-Some.is (c.in_ok-entry.ensures.first form _ o.holding.left_hold) in
      let copied = c.in_ok-copy_run.ensures.copied form o.here _ _ around whole o.holding o.writing in
      null_next form c.args.left.is_object _ _ _ around whole o c.in-Some.entry _ f _ copied
      (other_kind _ c.in-Some.entry.kind Container c.eq.ensures c.if-eq.false) (sym (c.stops.ensures form f.t _ f.is_first.part) ∙ c.if-stops.true);
}

pub loop-entry-preserved : goal.loop-entry-preserved
loop-entry-preserved c = record {
  room = grind arith;
  values = λ form ts around whole h w.
      let o = c.loop-entry.invariant.values form ts around whole h w in
      let f = entry_taken form _ o.trees _ _ _ c.in-Some.is (c.in_ok-entry.ensures.first form _ o.holding.left_hold) in
      scalar_kept form c.args.left.is_object _ _ _ around whole o c.in-Some.entry _ f
      (sym (c.stops.ensures form f.t _ f.is_first.part) ∙ c.if-stops.false);
}

pub returns-in_err-copy_run-2-clause-put : goal.returns-in_err-copy_run-2-clause-put
returns-in_err-copy_run-2-clause-put c = λ form ts around whole h w.
    let o = c.loop-entry.invariant.values form ts around whole h w in
    failed _ _ _ c.from_residual-in_err-copy_run-2.ensures.1 (c.in_err-copy_run-2.ensures.copied form o.here _ _ around whole o.holding o.writing)

pub returns-clause-put : goal.returns-clause-put
returns-clause-put c = λ form ts around whole h w.
    let o = c.loop-entry.invariant.values form ts around whole h w in
    let none = no_entry_left form _ o.trees _ c.in_default.is (c.in_ok-entry.ensures.first form _ o.holding.left_hold) in
    no_value_left form c.args.left.is_object _ _ _ around whole o _ (c.in_ok-copy_run-2.ensures.copied form o.here _ _ around whole o.holding o.writing) none
