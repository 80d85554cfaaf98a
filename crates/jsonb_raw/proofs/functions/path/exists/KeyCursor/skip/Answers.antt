use Rattle.jsonb_raw.proofs.Lemmas.{refl, cursor_next, last_next}
use Rattle.jsonb_raw.proofs.functions.path.exists.KeyCursor.skip.Goals as goal

pub keys-preserved : goal.keys-preserved
keys-preserved c =
    let n = rw c.keys.invariant.ahead at c.in-Some-Ok.ensures.steps in
    record {
      ahead = refl;
      all = c.keys.invariant.all;
      cursor = λ form ks h.
          cursor_next form ks c.keys.self c.next.new.self (c.keys.invariant.cursor form ks h) c.in-Some-Ok.field-0 c.in-Some-Ok.entry
          c.in-Some-Ok.field-0-is n;
      within = λ h. last_next c.keys.self.all c.keys.self.left c.next.new.self c.in-Some-Ok.entry (c.keys.invariant.within h) (rw c.in-Some-Ok.field-0-is at n);
    }
