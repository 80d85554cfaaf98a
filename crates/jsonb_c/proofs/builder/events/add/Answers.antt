use Rattle.std.proofs.Common.{◌∙◌, Some, ap, refl, subst, sym}
use Rattle.jsonb_c.specs.Private.Events.{IsKeptOrNew}
use Rattle.jsonb_c.specs.Status.{code}
use Rattle.jsonb_c.specs.declared.status.Status.TheVariants.{Refused}
use Rattle.jsonb_c.proofs.BuilderLemmas.{fails_first, follows_kept, state_kept}
use Rattle.jsonb_c.proofs.builder.events.add.Goals as goal

pub returns-in-Err-clause-follows : goal.returns-in-Err-clause-follows
returns-in-Err-clause-follows c = λ form e is.
    rw (c.in-Err.ensures.left, c.in-Err.ensures.empty refl)
    (fails_first form e c.to_u32.result (c.to_u32.ensures ∙ ap (λ e. code (Refused e)) c.in-Err.ensures.kept))

pub returns-clause-follows : goal.returns-clause-follows
returns-clause-follows c = λ form e is.
    let old = subst (IsKeptOrNew c.args.builder.now.value) (sym c.deref_mut.ensures.value) c.in-Ok.ensures.kept in
    rw c.put.ensures (follows_kept form e c.args.builder.now.value c.deref_mut.result.now _ _ old (c.add_to-status.ensures.follows form e is))

pub returns-clause-kept : goal.returns-clause-kept
returns-clause-kept c =
    let old = subst (IsKeptOrNew c.args.builder.now.value) (sym c.deref_mut.ensures.value) c.in-Ok.ensures.kept in
    rw c.put.ensures (state_kept c.args.builder.now.value c.deref_mut.result.now c.add_to-status.result (Some c.add_to-status.new.kept) old
    c.add_to-status.ensures.kept)
