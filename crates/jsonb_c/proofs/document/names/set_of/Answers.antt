use Rattle.std.proofs.Common.{refl}
use Rattle.std.proofs.Math.ListN.{drop_of_length-le}
use Rattle.jsonb_c.proofs.NameSets.{gathers_all, gathers_step}
use Rattle.jsonb_c.proofs.document.names.set_of.Goals as goal

pub loop-name-init : goal.loop-name-init
loop-name-init c = λ q. rw c.new-set.ensures.empty refl

pub loop-name-preserved : goal.loop-name-preserved
loop-name-preserved c =
    gathers_step _ _ _ _ _ c.loop-name-test.true (λ q. c.in_ok-insert.ensures.updates.0
    (record { ref_ptr = c.args.names.ref_ptr; now = q })) c.loop-name.invariant

pub returns : goal.returns
returns c = gathers_all _ _ _ (drop_of_length-le _ c.loop-name-test.false) c.loop-name.invariant
