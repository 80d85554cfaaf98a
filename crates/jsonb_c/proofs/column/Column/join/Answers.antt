use Rattle.std.proofs.Common.{◌≡◌, ◌+◌, ◌<◌, length, true, false, refl, inr, arith, rules}
use Rattle.jsonb_c.specs.Private.Buffers.{written_cell}
use Rattle.jsonb_c.proofs.Rows.{joined_more, placed, not_placed, lacks_room}
use Rattle.jsonb_c.proofs.column.Column.join.Goals as goal

pub returns-then-not-write_row : goal.returns-then-not-write_row
returns-then-not-write_row g c =
    let refused : c.write_row.result ≡ false = search (rules, c.if-not-write_row.true) in
    let len_is = rw c.deref.ensures.value at c.written_len-len.ensures in
    let said = not_placed _ _ _ _ c.write_row.result refused (rw c.deref-in-loop-index.ensures.value at c.write_row.ensures) in inr (
      rw said.1 c.loop-index.invariant,
      inr (lacks_room _ _ _ _ _ _ _ (written_cell c.ask_for_bytes-cell.result c.ask_for_bytes-cell.new.out.items) c.row.ensures c.loop-index.invariant
          c.ask_for_bytes-cell.ensures
          len_is (omega (arith, said.0, len_is)) c.to_u32.ensures),
    )

pub loop-index-preserved : goal.loop-index-preserved
loop-index-preserved g c =
    let in_positions : c.loop-index.index + 1 < length c.args.positions.now = omega arith in
    let in_statuses : c.loop-index.index < length c.args.statuses.now = omega arith in
    let done : c.write_row.result ≡ true = search (rules, c.if-not-write_row.false) in
    let len_is = rw c.deref.ensures.value at c.written_len-len.ensures in
    let said = placed _ _ _ _ c.write_row.result done (rw c.deref-in-loop-index.ensures.value at c.write_row.ensures) in
    rw (c.written_status.ensures c.ask_for_bytes-cell.new.out.items, len_is)
    (joined_more _ _ _ _ _ _ _ _ _ (written_cell c.ask_for_bytes-cell.result c.ask_for_bytes-cell.new.out.items) c.row.ensures in_positions in_statuses
    c.loop-index.invariant
    c.ask_for_bytes-cell.ensures refl said)

pub returns : goal.returns
returns g c =
    let all : c.loop-index.index ≡ c.min-room.result = omega arith in
    inr (rw all at c.loop-index.invariant, search rules)

pub overflow_add-at : goal.overflow_add-at
overflow_add-at g c =
    let done : c.write_row.result ≡ true = search (rules, c.if-not-write_row.false) in
    let len_is = rw c.deref.ensures.value at c.written_len-len.ensures in
    let said = placed _ _ _ _ c.write_row.result done (rw c.deref-in-loop-index.ensures.value at c.write_row.ensures) in
    omega (arith, said.0, len_is)
