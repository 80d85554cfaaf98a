use Rattle.jsonb_raw.proofs.Lemmas.{start_at, block_cursor}
use Rattle.jsonb_raw.proofs.functions.path.exists.KeyTable.block_cursor.Goals as goal

pub returns : goal.returns
returns c = λ form ks h.
    let all = c.args.self.now.all in
    let start = c.in_ok-start.start.now in
    let item = c.in_ok-start.ensures.lookup in
    block_cursor form all ks start _ c.next.new.self c.in-Some-Ok.entry h.all
    (start_at form ks c.args.self.now c.args.block start h item.3.0 item.1) c.in_ok-left.ensures.0 c.in_ok-left.ensures.1
    (rw c.in-Some-Ok.field-0-is at c.in-Some-Ok.ensures.steps)
