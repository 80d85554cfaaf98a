use Rattle.jsonb_keypath.proofs.Common.{◌≡◌, ◌++◌, arith, unit, excluded, unit_bytes}
use Rattle.jsonb_keypath.proofs.TextLemmas.{gather-goes, gather-ends}
use Rattle.jsonb_keypath.proofs.token.text.units_at.Goals as goal

pub loop-next-preserved : goal.loop-next-preserved
loop-next-preserved c =
    let e = excluded c.args.ending in
    let grown : c.push_unit-in-Some-unit_at.new.found.items ≡ c.loop-next.found.items ++ unit_bytes c.in-Some-unit_at.next = c.in_ok-push_unit-2.ensures in
    record {
      read = rw grown (gather-goes (unit e) c.loop-next.found.items c.loop-next.rest.now
          (unit_bytes c.in-Some-unit_at.next) c.in-Some-unit_at.after.now _ c.in-Some-unit_at.ensures.value c.in-Some-unit_at.ensures.shrinks
          c.loop-next.invariant.read);
      shorter = omega (arith, c.in-Some-unit_at.ensures.shrinks, c.loop-next.invariant.shorter);
    }

pub returns-clause-value : goal.returns-clause-value
returns-clause-value c = gather-ends
    (unit (excluded c.args.ending)) c.loop-next.found.items c.loop-next.rest.now _ c.in_default-unit_at.ensures.value c.loop-next.invariant.read
