use Rattle.jsonb_raw.proofs.Lemmas.{[], ◌∷◌, List, length, arith, sym, ap, subst, ◌∙◌, append-nil, reverse, Tree, Around, Rooms, IsWriting, HasRoom, popped, none_around, empty_of, rooms_after, room_none, rooms_pushed}
use Rattle.jsonb_raw.proofs.functions.path.cut.close_all.Goals as goal

pub loop-outer-init : goal.loop-outer-init
loop-outer-init c = record { room = c.requires.room; closing = λ form whole closing. closing }

pub returns-in_err-leave : goal.returns-in_err-leave
returns-in_err-leave c =
    let o = c.in-Some.outer in
    let rooms = rooms_after (reverse c.pop.new.self.items) in
    absurd (c.in_err-leave.ensures.room (length o.after.contents.now) rooms
    (subst (λ (os : Rooms). HasRoom c.loop-outer.writer 0 os) (rooms_pushed c.pop.new.self.items c.loop-outer.around.items o c.in-Some.ensures.items)
    c.loop-outer.invariant.room))

pub loop-outer-preserved : goal.loop-outer-preserved
loop-outer-preserved c =
    let o = c.in-Some.outer in
    let rooms = rooms_after (reverse c.pop.new.self.items) in
    record {
      room =
          let left = c.in_ok-leave.ensures.room (length o.after.contents.now) rooms
          (subst (λ (os : Rooms). HasRoom c.loop-outer.writer 0 os) (rooms_pushed c.pop.new.self.items c.loop-outer.around.items o c.in-Some.ensures.items)
          c.loop-outer.invariant.room) in
          c.in_ok-copy_some.ensures.room 0 rooms (room_none _ _ rooms _ left);
      closing = λ form whole closing.
          let s = c.loop-outer.invariant.closing form whole closing in
          let p = popped _ _ _ o s.outside s.are_left c.in-Some.ensures.items in
          let closed = subst (λ (os : Around). IsWriting form c.loop-outer.writer [] os whole) (p.2 ∙ ap (λ l. l ∷ p.1) p.3.2) s.writing in
          let left = c.in_ok-leave.ensures.left form p.3.0 p.1 whole closed in
          record {
            outside = p.1;
            are_left = p.4;
            writing = c.in_ok-copy_some.ensures.copied form p.3.0 [] p.1 whole p.3.1
                (subst (λ (ts : List Tree). IsWriting form c.leave.new.self ts p.1 whole) (sym (append-nil p.3.0)) left);
          };
    }

pub returns-clause-closed : goal.returns-clause-closed
returns-clause-closed c = λ form whole closing.
    let s = c.loop-outer.invariant.closing form whole closing in
    let none = none_around _ c.loop-outer.around.items s.outside
    (empty_of c.loop-outer.around.items (omega (arith, c.in_default.ensures.cases.0, c.loop-outer.around.ok.0))) s.are_left in
    subst (λ (os : Around). IsWriting form c.loop-outer.writer [] os whole) none s.writing
