use Rattle.jsonb.proofs.Lemmas.{◌≡◌, Ok, length, ap, slice_range, Locates, pushed_all, same_outcome, picked_between, AllZip-between, related_length}
use Rattle.jsonb.proofs.selector.children.push_entry.Goals as goal

pub returns-clause-meant : goal.returns-clause-meant
returns-clause-meant c = λ bytes ts before r a.
    let start = c.bounds-start.result.0 in
    let end = c.bounds-start.result.1 in
    let len : length c.args.elements.now ≡ length ts = related_length (Locates bytes) c.args.elements.now ts r in
    same_outcome (ap Ok (picked_between c.args.entry.now ts start end c.bounds-start.ensures.within.0
    (rw len at c.bounds-start.ensures.within.1) (rw len at c.bounds-start.ensures.meant)))
    (pushed_all (Locates bytes) (Ok tt) c.args.nodes.now.items c.extend_from_slice.new.self.items (slice_range c.args.elements.now start end) before
    (slice_range ts start end)
    c.in_ok-extend_from_slice.ensures.items tt a (AllZip-between (Locates bytes) start end c.args.elements.now ts r))
