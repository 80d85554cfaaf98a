use Rattle.jsonb_doc.proofs.Lemmas.{rules, ◌≡◌, ◌+◌, arith, ap, length, sym, ◌∙◌, option_copied, length-append, parts_of, Container, halvings-more, halvings-fewer, IsApart-within, IsApart-less, IsApart-one, max_of, no_parts, container_decodes, AreDeep-large, AreDeep-whole, EntriesLeft-none, EntriesLeft-next, EntriesLeft-aside, same_kind, other_kind}
use Rattle.jsonb_doc.proofs.nesting.+depth.Goals.{entries_depth-then-eq+then-entry-half, entries_depth-then-eq+else-entry-half, entries_depth-else-eq, document_depth-in-Some+in_default-large, document_depth-in_default}
use Rattle.jsonb_doc.proofs.nesting.+depth.Goals as goal

pub document_depth-entries_depth-depths-requires : goal.document_depth-entries_depth-depths-requires
document_depth-entries_depth-depths-requires c = search (rules, halvings-more)

pub document_depth-loop-words-preserved : goal.document_depth-loop-words-preserved
document_depth-loop-words-preserved t c =
    let inv = c.loop-words.invariant in
    let found = c.entries_depth-depths.ensures in
    let parts = c.in-Some.ensures in
    let greatest = max_of c.max-deepest.result c.loop-words.deepest (c.loop-words.level + c.entries_depth-depths.result.known) c.max-deepest.ensures in
    record {
      left = λ form tree h.
          let (u, decodes, deep) = inv.left form tree h in
          let (inner, inner_decodes, below) = AreDeep-large form u _ _ c.in-Some-large.large.now (ap option_copied c.in-Some-large.is)
          (found.depth form (parts_of u) (parts.parts form u decodes)) in
          (inner, inner_decodes, omega (arith, greatest));
      room = omega (arith, parts.room, inv.room, (rw c.in-Some-large.is at found.large));
      bound = omega (arith, parts.room, inv.room, inv.bound, found.room, greatest);
    }

pub document_depth-returns-clause-depth : goal.document_depth-returns-clause-depth
document_depth-returns-clause-depth t c = λ form tree h.
    let (u, decodes, deep) = c.loop-words.invariant.left form tree h in
    elim c.match-split_parts.branch [
      | document_depth-in-Some+in_default-large w ↦
          let known = AreDeep-whole form u _ _ (ap option_copied w.in_default-large.is)
          (w.entries_depth-depths.ensures.depth form (parts_of u) (w.in-Some.ensures.parts form u decodes)) in
          let greatest = max_of w.max-deepest.result _ (c.loop-words.level + w.entries_depth-depths.result.known) w.max-deepest.ensures in
          omega (arith, w.deepest-is, c.max.ensures)
      | document_depth-in_default w ↦
          let none = no_parts u (w.in_default.ensures.parts form u decodes) in
          omega (arith, w.deepest-is, c.max.ensures)
    ]

pub entries_depth-document_depth-within-requires : goal.entries_depth-document_depth-within-requires
entries_depth-document_depth-within-requires c = search (rules, halvings-fewer)

pub entries_depth-loop-entry-preserved : goal.entries_depth-loop-entry-preserved
entries_depth-loop-entry-preserved t c =
    let inv = c.loop-entry.invariant in
    let b = c.in-Some.ensures in
    let content = c.in-Some.entry.content.now in
    let others = c.in-Some.entry.other_contents.now in
    let large = option_copied c.loop-entry.large in
    let len : length c.loop-entry.contents_left.now ≡ length content + length others = ap length b.contents_joined ∙ length-append content others in
    let within = IsApart-within large c.loop-entry.contents_left.now c.args.contents.now inv.apart in
    let greatest = max_of c.max-known.result c.loop-entry.known (1 + c.if-eq.within) c.max-known.ensures in
    let known = inv.bound in
    elim c.if-eq.branch [
      | entries_depth-then-eq+then-entry-half w ↦
          let none = IsApart-one large _ _ content inv.apart (omega (arith, len)) w.if-entry-half.true in
          rw (greatest, w.within-is, w.large-is) (record {
            left = λ form ts h. EntriesLeft-aside form ts _ _ _ _ _ _ _ _ b (inv.left form ts h) none (same_kind _ _ Container c.eq.ensures w.if-eq.true);
            apart = (w.if-entry-half.true, omega (arith, len, within));
            bound = omega arith;
          })
      | entries_depth-then-eq+else-entry-half w ↦
          let room = w.document_depth-within.ensures.room in
          rw (greatest, w.within-is, w.large-is) (record {
            left = λ form ts h. EntriesLeft-next form ts _ _ _ _ _ _ _ _ b (inv.left form ts h) _ (λ tree k.
                w.document_depth-within.ensures.depth form tree (container_decodes form tree _ _ (same_kind _ _ Container c.eq.ensures w.if-eq.true) k));
            apart = IsApart-less large _ others _ (omega (arith, len)) inv.apart;
            bound = omega (arith, len, within);
          })
      | entries_depth-else-eq w ↦ rw (greatest, w.within-is, w.large-is) (record {
        left = λ form ts h. EntriesLeft-next form ts _ _ _ _ _ _ _ _ b (inv.left form ts h) 0
            (λ tree k. sym (no_parts tree (grind (arith, other_kind _ _ Container c.eq.ensures w.if-eq.false))));
        apart = IsApart-less large _ others _ (omega (arith, len)) inv.apart;
        bound = omega arith;
      })
    ]

pub entries_depth-returns-clause-depth : goal.entries_depth-returns-clause-depth
entries_depth-returns-clause-depth c = search (rules, EntriesLeft-none)
