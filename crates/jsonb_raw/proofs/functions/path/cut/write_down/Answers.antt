use Rattle.jsonb_raw.proofs.Lemmas.{◌≡◌, ◌≤◌, ◌+◌, ◌++◌, ◌∷◌, length, take, drop, suc, arith, refl, sym, ap, subst, ◌∙◌, reverse, err_from_is_err_and, Rooms, HasRoom, head_size, pushed, change_child, remove_at, children, children_kept, contents_size, size, sizes, rooms_after, drop_first, drop_of_length-le, makes_kept, opens_next, opens_none, kept_at_most, head_less, room_less, rooms_pushed, opening_begun, all_behind}
use Rattle.jsonb_raw.specs.Private.Cuts.{entries_kept}
use Rattle.jsonb_raw.proofs.functions.path.cut.write_down.Goals as goal

pub loop-index-init : goal.loop-index-init
loop-index-init c = record {
  short = c.requires.short;
  room = rw c.in_ok-around.ensures.items tt;
  opening = λ form t end n ns led.
      opening_begun form c.in_ok-writer.writer c.in_ok-around.around.items c.args.outermost.now c.args.inner.now t end n ns c.in_ok-around.ensures.items led
      (c.in_ok-writer.ensures.opened form (entries_kept t n led.0 ns) (change_child n (remove_at ns) t)
      (makes_kept form c.args.outermost.now c.args.inner.now t led.0 end n ns c.children_kept.result led.1 led.2 c.children_kept.ensures));
}

pub returns-in_err-put_others-clause-written : goal.returns-in_err-put_others-clause-written
returns-in_err-put_others-clause-written c = λ form t end n ns led.
    let e = err_from_is_err_and c.from_residual-in_err-put_others.result c.from_residual-in_err-put_others.ensures.1 in
    let o = c.loop-index.invariant.opening form t end n ns led in
    let w = opens_none form _ _ c.loop-index.parent (drop c.loop-index.index c.args.inner.now) _ o (drop_of_length-le c.args.inner.now c.loop-index-test.false) in
    rw (e.1, e.2) (c.in_err-put_others.ensures.put form _ _ _ o.n o.outside _ o.parent.keys_hold o.parent.front_hold o.parent.after_hold o.parent.passed w)

pub returns-clause-written : goal.returns-clause-written
returns-clause-written c = λ form t end n ns led.
    let o = c.loop-index.invariant.opening form t end n ns led in
    let w = opens_none form _ _ c.loop-index.parent (drop c.loop-index.index c.args.inner.now) _ o (drop_of_length-le c.args.inner.now c.loop-index-test.false) in
    record {
      outside = o.outside;
      are_left = o.are_left;
      writing = c.in_ok-put_others.ensures.put form _ _ _ o.n o.outside _ o.parent.keys_hold o.parent.front_hold o.parent.after_hold o.parent.passed w;
    }

pub loop-index-preserved : goal.loop-index-preserved
loop-index-preserved c =
    let p = c.loop-index.parent in
    let q = c.index-inner-index.result in
    let left = drop c.loop-index.index c.args.inner.now in
    let others = drop (c.loop-index.index + 1) c.args.inner.now in
    let split : left ≡ q ∷ others = drop_first c.args.inner.now c.loop-index.index q c.loop-index-test.true c.index-inner-index.is in
    let rooms = rooms_after (reverse c.loop-index.around.items) in
    let keys = length p.keys.contents.now in
    let front = length p.front.contents.now in
    let after = length p.after.contents.now in
    let kept = c.children_kept-in-loop-index.result in
    let kept_is : kept ≡ children_kept q others =
    c.children_kept-in-loop-index.ensures ∙ ap (children_kept q) (all_behind c.args.inner.now (c.loop-index.index + 1)) in
    let all : sizes left ≡ size q + sizes others = ap sizes split in
    let head : head_size q.kind kept ≤ head_size q.kind (q.others + 1) =
    head_less q.kind kept (q.others + 1) (omega (arith, kept_is, kept_at_most q others)) in
    let less : head_size q.kind kept + (contents_size q + sizes others) ≤ sizes left = omega (arith, all, head) in
    record {
      short = omega (arith, all, c.loop-index.invariant.short);
      room =
          let begun = room_less _ _ (length c.loop-index.writer.out.items + (keys + (front + (head_size q.kind kept + (contents_size q + sizes others) + after)))) rooms
          (omega (arith, less)) c.loop-index.invariant.room in
          let first = c.in_ok-copy_some.ensures.room (front + (head_size q.kind kept + (contents_size q + sizes others) + after)) rooms begun in
          let second = c.in_ok-copy_some-2.ensures.room (head_size q.kind kept + (contents_size q + sizes others) + after) rooms first in
          let entered = c.in_ok-open.ensures.room after (contents_size q + sizes others) rooms second (omega (arith, less, c.loop-index.invariant.short)) in
          subst (λ (os : Rooms). HasRoom c.enter.new.self (contents_size q + sizes others) os)
          (sym (rooms_pushed c.loop-index.around.items _ _ c.in_ok-push.ensures.items)) entered;
      opening = λ form t end n ns led.
          let o = opens_next form _ _ p (drop c.loop-index.index c.args.inner.now) _ (c.loop-index.invariant.opening form t end n ns led) q others split in
          let back = drop (suc o.n) (children o.t) in
          let u = change_child o.m (remove_at o.ns) o.child in
          let first = c.in_ok-copy_some.ensures.copied form _ (take o.n (children o.t) ++ u ∷ back) o.outside _ o.parent.keys_hold o.writing in
          let second = c.in_ok-copy_some-2.ensures.copied form _ (u ∷ back) o.outside _ o.parent.front_hold first in
          let makes = makes_kept form q others o.child o.inner o.end o.m o.ns kept o.next o.others kept_is in
          record {
            t = o.child;
            child = o.inner;
            end = o.end;
            n = o.m;
            ns = o.ns;
            outside = (c.in_ok-open.open, back) ∷ o.outside;
            parent = o.next;
            inner = o.others;
            are_left = pushed _ _ _ _ _ o.outside c.in_ok-push.ensures.items (back, o.parent.after_hold, refl) o.are_left;
            writing = c.in_ok-open.ensures.entered form (entries_kept o.child o.m o.inner o.ns) u back o.outside _ makes second;
          };
    }
