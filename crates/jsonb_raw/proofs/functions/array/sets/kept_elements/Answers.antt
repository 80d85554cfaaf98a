use Rattle.jsonb_raw.proofs.Lemmas.{◌∙◌, inl, sym, subst, select_occurrences, RunsHold, keeps, append-nil, None, refl, failed, KeptRuns-left, KeptRuns-kept, KeptRuns-dropped, next_of, no_entry_left}
use Rattle.jsonb_raw.proofs.functions.array.sets.kept_elements.Goals as goal

pub returns-in_err-push_run-clause-made : goal.returns-in_err-push_run-clause-made
returns-in_err-push_run-clause-made c = λ form other ts h b.
    let m = c.loop-runs.invariant form other ts h b in
    failed _ _ _ c.from_residual-in_err-push_run.ensures.1 (inl (c.in_err-push_run.ensures.pushed form m.held m.rest m.holds))

pub loop-runs-preserved-in_ok-push_run : goal.loop-runs-preserved-in_ok-push_run
loop-runs-preserved-in_ok-push_run c = λ form other ts h b.
    let m = c.loop-runs.invariant form other ts h b in
    let mine = rw c.in-Some.is at (c.in_ok-entry.ensures.first form m.rest (KeptRuns-left form _ _ other _ _ _ _ m)) in
    let n = next_of form _ _ other _ _ _ _ m _ _ mine in
    let passed = c.in_ok-keep_next.ensures.passed form other m.before n.ts n.t n.behind (record { content = n.first_is.part }) in
    KeptRuns-dropped form _ _ other _ _ _ _ m _ _ mine n _ _ (c.in_ok-push_run.ensures.pushed form m.held m.rest m.holds)
    (sym passed.0 ∙ c.if-not-branch.true) passed.1

pub loop-runs-preserved : goal.loop-runs-preserved
loop-runs-preserved c = λ form other ts h b.
    let m = c.loop-runs.invariant form other ts h b in
    let mine = rw c.in-Some.is at (c.in_ok-entry.ensures.first form m.rest (KeptRuns-left form _ _ other _ _ _ _ m)) in
    let n = next_of form _ _ other _ _ _ _ m _ _ mine in
    let passed = c.in_ok-keep_next.ensures.passed form other m.before n.ts n.t n.behind (record { content = n.first_is.part }) in
    KeptRuns-kept form _ _ other _ _ _ _ m _ _ mine n _ (sym passed.0 ∙ c.if-not-branch.false) passed.1

pub returns-in_err-push_run-2-clause-made : goal.returns-in_err-push_run-2-clause-made
returns-in_err-push_run-2-clause-made c = λ form other ts h b.
    let m = c.loop-runs.invariant form other ts h b in
    failed _ _ _ c.from_residual-in_err-push_run-2.ensures.1 (inl (c.in_err-push_run-2.ensures.pushed form m.held m.rest m.holds))

pub returns-clause-made : goal.returns-clause-made
returns-clause-made c = λ form other ts h b.
    let m = c.loop-runs.invariant form other ts h b in
    let none = rw c.in_default.is at (c.in_ok-entry.ensures.first form m.rest (KeptRuns-left form _ _ other _ _ _ _ m)) in
    let whole = sym (append-nil m.held) ∙ (rw (no_entry_left form _ m.rest None refl none) at m.joined) in
    let held = c.in_ok-push_run-2.ensures.pushed form m.held m.rest m.holds in
    c.array_of.ensures.array form (select_occurrences (keeps c.args.kind other) ts)
    (rw c.as_slice.ensures.value (subst (RunsHold form c.push_run-2.new.runs.items) whole held))
