use Rattle.jsonb_raw.proofs.Lemmas.{[], ◌+◌, refl, ◌∙◌, start_stored, table_stored}
use Rattle.jsonb_raw.proofs.functions.path.exists.KeyTable.fill.Goals as goal

pub loop-block-init : goal.loop-block-init
loop-block-init c = record {
  all = c.new-cursor.ensures.all;
  within = record { words_before = []; words = rw (c.new-cursor.ensures.all, c.new-cursor.ensures.left) refl; contents_before = []; contents = rw (c.new-cursor.ensures.all, c.new-cursor.ensures.left) refl };
  cursor = λ form ks h. c.new-cursor.ensures.cursor form ks h.near.all_keys h.all;
  table = λ form ks h. h;
}

pub returns-then-not-skip : goal.returns-then-not-skip
returns-then-not-skip c = λ form ks h.
    let l = c.loop-block.invariant in
    table_stored form ks c.loop-block.self c.loop-block.block (c.loop-block.block + 1) c.in-Some.start (l.table form ks h)
    (start_stored form c.loop-block.self.all ks c.loop-block.cursor c.in-Some.start (l.cursor form ks h) l.within l.all c.in-Some.ensures)

pub loop-block-preserved : goal.loop-block-preserved
loop-block-preserved c =
    let l = c.loop-block.invariant in
    record {
      all = c.skip.ensures.all ∙ l.all;
      within = c.skip.ensures.within l.within;
      cursor = λ form ks h. c.skip.ensures.cursor form ks (l.cursor form ks h);
      table = λ form ks h.
          table_stored form ks c.loop-block.self c.loop-block.block (c.loop-block.block + 1) c.in-Some.start (l.table form ks h)
          (start_stored form c.loop-block.self.all ks c.loop-block.cursor c.in-Some.start (l.cursor form ks h) l.within l.all c.in-Some.ensures);
    }
