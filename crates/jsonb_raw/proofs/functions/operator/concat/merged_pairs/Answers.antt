use Rattle.jsonb_raw.proofs.Lemmas.{◌≡◌, ◌++◌, ◌∙◌, Some, inl, sym, subst, keys_of, keys_rise, merged, PairsHeld, FirstPair, arith, failed, merged_rising, left_of, merging_less, merging_equal_second, merging_equal, merging_greater, merging_ended}
use Rattle.jsonb_raw.proofs.functions.operator.concat.merged_pairs.Goals as goal

pub returns-in_err-first_pair-clause-merged : goal.returns-in_err-first_pair-clause-merged
returns-in_err-first_pair-clause-merged c = λ form ps qs h g a b.
    let m = c.loop-runs.invariant form ps qs h g a b in
    absurd (c.in_err-first_pair.ensures.first form m.mine (left_of form _ _ _ _ _ _ m))

pub returns-in_err-next-clause-merged : goal.returns-in_err-next-clause-merged
returns-in_err-next-clause-merged c = λ form ps qs h g a b.
    let m = c.loop-runs.invariant form ps qs h g a b in absurd (c.in_err-next.ensures.first form m.theirs m.others)

pub returns-in_err-push_run-in-Equal-2-clause-merged : goal.returns-in_err-push_run-in-Equal-2-clause-merged
returns-in_err-push_run-in-Equal-2-clause-merged c = λ form ps qs h g a b.
    let m = c.loop-runs.invariant form ps qs h g a b in
    failed _ _ _ c.from_residual-in_err-push_run-in-Equal-2.ensures.1 (inl (c.in_err-push_run-in-Equal-2.ensures.pushed form m.held m.mine m.pairs))

pub returns-in_err-push_run-in-Greater-clause-merged : goal.returns-in_err-push_run-in-Greater-clause-merged
returns-in_err-push_run-in-Greater-clause-merged c = λ form ps qs h g a b.
    let m = c.loop-runs.invariant form ps qs h g a b in
    failed _ _ _ c.from_residual-in_err-push_run-in-Greater.ensures.1 (inl (c.in_err-push_run-in-Greater.ensures.pushed form m.held m.mine m.pairs))

pub loop-runs-preserved-in-Less : goal.loop-runs-preserved-in-Less
loop-runs-preserved-in-Less c = λ form ps qs h g a b.
    let m = c.loop-runs.invariant form ps qs h g a b in
    let mine = rw c.in-Some-Some.is-0 at (c.in_ok-first_pair.ensures.first form m.mine (left_of form _ _ _ _ _ _ m)) in
    let theirs = rw c.in-Some-Some.is-1 at (c.in_ok-next.ensures.first form m.theirs m.others) in
    merging_less form _ _ _ _ _ _ m c.in-Some-Some.pair c.in-Some-Some.next mine theirs (sym c.cmp.ensures ∙ c.in-Less.is)

pub loop-runs-preserved-in-Equal : goal.loop-runs-preserved-in-Equal
loop-runs-preserved-in-Equal c = λ form ps qs h g a b.
    let m = c.loop-runs.invariant form ps qs h g a b in
    let mine = rw c.in-Some-Some.is-0 at (c.in_ok-first_pair.ensures.first form m.mine (left_of form _ _ _ _ _ _ m)) in
    let theirs = rw c.in-Some-Some.is-1 at (c.in_ok-next.ensures.first form m.theirs m.others) in
    merging_equal_second form _ _ _ _ _ _ m c.in-Some-Some.pair c.in-Some-Some.next mine theirs c.if-is_second.true (sym c.cmp.ensures ∙ c.in-Equal.is)

pub loop-runs-preserved-in_ok-push_run-in-Equal-2 : goal.loop-runs-preserved-in_ok-push_run-in-Equal-2
loop-runs-preserved-in_ok-push_run-in-Equal-2 c = λ form ps qs h g a b.
    let m = c.loop-runs.invariant form ps qs h g a b in
    let mine = rw c.in-Some-Some.is-0 at (c.in_ok-first_pair.ensures.first form m.mine (left_of form _ _ _ _ _ _ m)) in
    let theirs = rw c.in-Some-Some.is-1 at (c.in_ok-next.ensures.first form m.theirs m.others) in
    let pushed = c.in_ok-push_run-in-Equal-2.ensures.pushed form m.held m.mine m.pairs in
    merging_equal form _ _ _ _ _ _ m c.in-Some-Some.pair c.in-Some-Some.next mine theirs c.push_run.new.self pushed c.if-is_second.false
    (sym c.cmp.ensures ∙ c.in-Equal-2.is)

pub loop-runs-preserved : goal.loop-runs-preserved
loop-runs-preserved c = λ form ps qs h g a b.
    let m = c.loop-runs.invariant form ps qs h g a b in
    let mine = rw c.in-Some-Some.is-0 at (c.in_ok-first_pair.ensures.first form m.mine (left_of form _ _ _ _ _ _ m)) in
    let theirs = rw c.in-Some-Some.is-1 at (c.in_ok-next.ensures.first form m.theirs m.others) in
    let pushed = c.in_ok-push_run-in-Greater.ensures.pushed form m.held m.mine m.pairs in
    merging_greater form _ _ _ _ _ _ m c.in-Some-Some.pair c.in-Some-Some.next mine theirs c.push_run-in-Greater.new.self pushed
    (sym c.cmp.ensures ∙ c.in-Greater.is)

pub returns-in_err-push_run-clause-merged : goal.returns-in_err-push_run-clause-merged
returns-in_err-push_run-clause-merged c = λ form ps qs h g a b.
    let m = c.loop-runs.invariant form ps qs h g a b in
    failed _ _ _ c.from_residual-in_err-push_run.ensures.1 (inl (c.in_err-push_run.ensures.pushed form m.held m.mine m.pairs))

pub returns-in_err-push-clause-merged : goal.returns-in_err-push-clause-merged
returns-in_err-push-clause-merged c = λ form ps qs h g a b.
    let m = c.loop-runs.invariant form ps qs h g a b in
    let one = c.in_ok-push_run.ensures.pushed form m.held m.mine m.pairs in
    failed _ _ _ c.from_residual-in_err-push.ensures.1 (inl (c.in_err-push.ensures.pushed form m.held m.mine one (left_of form _ _ _ _ _ _ m)))

pub returns-in_err-push-2-clause-merged : goal.returns-in_err-push-2-clause-merged
returns-in_err-push-2-clause-merged c = λ form ps qs h g a b.
    let m = c.loop-runs.invariant form ps qs h g a b in
    let one = c.in_ok-push_run.ensures.pushed form m.held m.mine m.pairs in
    let two = c.in_ok-push.ensures.pushed form m.held m.mine one (left_of form _ _ _ _ _ _ m) in
    failed _ _ _ c.from_residual-in_err-push-2.ensures.1 (inl (c.in_err-push-2.ensures.pushed form (m.held ++ m.mine) m.theirs two m.others))

pub returns-clause-merged : goal.returns-clause-merged
returns-clause-merged c = λ form ps qs h g a b.
    let m = c.loop-runs.invariant form ps qs h g a b in
    let one = c.in_ok-push_run.ensures.pushed form m.held m.mine m.pairs in
    let two = c.in_ok-push.ensures.pushed form m.held m.mine one (left_of form _ _ _ _ _ _ m) in
    let three = c.in_ok-push-2.ensures.pushed form (m.held ++ m.mine) m.theirs two m.others in
    let ended = λ (none : (x y : FirstPair) → c.in_ok-first_pair.field-0 ≡ Some x → c.in_ok-next.field-0 ≡ Some y → ⊥).
    merging_ended form _ _ _ _ _ _ m c.in_ok-first_pair.field-0 c.in_ok-next.field-0
    (c.in_ok-first_pair.ensures.first form m.mine (left_of form _ _ _ _ _ _ m)) (c.in_ok-next.ensures.first form m.theirs m.others) none in
    let whole : (m.held ++ m.mine) ++ m.theirs ≡ merged ps qs = grind arith in
    let all = subst (PairsHeld form c.push-2.new.self) whole three in
    c.object.ensures.object form (merged ps qs) all
    (merged_rising ps qs (keys_rise (keys_of ps) a))
