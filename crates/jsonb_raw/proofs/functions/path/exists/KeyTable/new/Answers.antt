use Rattle.jsonb_raw.proofs.Lemmas.{refl, All-replicate, IsBlockStart}
use Rattle.jsonb_raw.proofs.functions.path.exists.KeyTable.new.Goals as goal

pub returns : goal.returns
returns c = λ form ks are h.
    let front = c.new.ensures.cursor form ks are h in
    record {
      all = h;
      near = front;
      starts = All-replicate (IsBlockStart form c.args.keys ks) 512 (record { words = 0; contents = 0 })
          (record { cursor = c.new.result; is_cursor = front; words = rw c.new.ensures.left refl; contents = rw c.new.ensures.left refl });
      size = refl;
    }
