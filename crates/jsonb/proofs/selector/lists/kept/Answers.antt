use Rattle.jsonb.proofs.Lemmas.{Ok, ◌+◌, ◌++◌, ◌∷◌, [], ◌<◌, ◌^◌, ◌≡◌, refl, sym, subst, arith, append-nil, IfErr, IsOkAnd, IsSelectionError, AllZip, Locates, and_then, get_or, node_spots, truth, column_at, filtered, AllZip-append, answered, err_is, failed_as, refused, no_spot, one_more, refused_in, at_end, list_end, kept_first, said_known, said_failed, sound_at}
use Rattle.jsonb.proofs.selector.lists.kept.Goals as goal
use Rattle.jsonb.proofs.selector.lists.kept.Goals.{then-is_true+in_ok-push, else-is_true}

pub returns-in_default-clause-meant : goal.returns-in_default-clause-meant
returns-in_default-clause-meant c = λ bytes mode e top ts at from.
    let i = c.loop-item.item-index in
    let index = c.loop-item.index in
    refused (refused_in (c.loop-item.invariant bytes mode e top ts at from)
    (kept_first bytes (truth mode e top) c.args.items.now c.args.truths.now i index (index + 1) c.loop-item-test.true (λ h. refl))
    (λ t before h d. absurd (grind (arith, c.in_default.ensures, h.1.1))))

pub returns-in_err-truth-clause-meant : goal.returns-in_err-truth-clause-meant
returns-in_err-truth-clause-meant c = λ bytes mode e top ts at from.
    let i = c.loop-item.item-index in
    let index = c.loop-item.index in
    failed_as c.from_residual.ensures.1 (refused (refused_in (c.loop-item.invariant bytes mode e top ts at from)
    (kept_first bytes (truth mode e top) c.args.items.now c.args.truths.now i index (index + 1) c.loop-item-test.true (λ h. refl))
    (λ t before h d. said_failed (column_at c.args.truths.now index) c.in-Some.truth.now h.1.0 c.in_err-truth.field-0.0 (truth mode e top t)
    (λ b. Ok (filtered t b)) c.in-Some.ensures c.in_err-truth.was h.1.1 h.1.2)))

pub returns-in_err-truth-clause-sound : goal.returns-in_err-truth-clause-sound
returns-in_err-truth-clause-sound c = λ mode sound.
    rw (err_is c.from_residual.ensures.1)
    (subst (λ x. IfErr x (IsSelectionError mode)) c.in_err-truth.was (sound_at mode c.args.truths.now c.loop-item.index c.in-Some.truth.now sound c.in-Some.ensures))

pub loop-item-preserved : goal.loop-item-preserved
loop-item-preserved c = λ bytes mode e top ts at from.
    let i = c.loop-item.item-index in
    let index = c.loop-item.index in
    let next = c.saturating_add-index.result in
    let b = c.in_ok-truth.field-0 in
    let nodes = node_spots c.loop-item.nodes in
    let follows : index + 1 < 2 ^ 64 → next ≡ index + 1 = λ h. omega (arith, h, c.saturating_add-index.ensures) in
    one_more (c.loop-item.invariant bytes mode e top ts at from)
    (kept_first bytes (truth mode e top) c.args.items.now c.args.truths.now i index next c.loop-item-test.true follows)
    (λ t before h d.
    let known = said_known (column_at c.args.truths.now index) c.in-Some.truth.now h.1.0 b (truth mode e top t) c.in-Some.ensures c.in_ok-truth.was h.1.1 h.1.2 in
    let kept : AllZip (Locates bytes) (node_spots c.if-is_true.nodes) (before ++ filtered t b) = elim c.if-is_true.branch [
      | then-is_true+in_ok-push w ↦
          let is = rw w.if-is_true.true at (c.is_true.ensures t) in
          rw (w.nodes-is, is, w.in_ok-push.ensures.ok)
          (AllZip-append (Locates bytes) nodes (get_or c.args.items.now i no_spot ∷ []) before (t ∷ []) d (h.0, tt))
      | else-is_true w ↦
          let is = rw w.if-is_true.false at (c.is_true.ensures t) in
          rw (w.nodes-is, is, append-nil before) d
    ] in
    subst (λ o. IsOkAnd (and_then o (λ b. Ok (filtered t b))) (λ us. AllZip (Locates bytes) (node_spots c.if-is_true.nodes) (before ++ us))) (sym known) kept)

pub returns-clause-meant : goal.returns-clause-meant
returns-clause-meant c = λ bytes mode e top ts at from.
    answered (at_end (c.loop-item.invariant bytes mode e top ts at from)
    (λ rest left. list_end (Locates bytes) c.args.items.now c.loop-item.item-index c.loop-item-test.false rest left.0))
