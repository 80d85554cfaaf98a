use Rattle.jsonb_raw.proofs.Lemmas.{◌∙◌, inl, append-nil, failed, names_begun, parting_begun, run_hold, parting_on}
use Rattle.jsonb_raw.proofs.functions.object.pairs_by_set.Goals.{then-run-wanted+in_ok-keys+in_ok-push, else-run-wanted}
use Rattle.jsonb_raw.proofs.functions.object.pairs_by_set.Goals as goal

pub loop-runs-init : goal.loop-runs-init
loop-runs-init c = record {
  left = λ form ps h a. search (parting_begun, names_begun, c.new-runs.ensures.keys, c.new-runs.ensures.values, c.new-sorted.ensures.decides);
  names = c.new-sorted.ensures.names;
}

pub returns-in_err-push-clause-pairs : goal.returns-in_err-push-clause-pairs
returns-in_err-push-clause-pairs c = λ form ps h a.
    let m = c.loop-runs.invariant.left form ps h a in
    let f = rw (c.in-Some.is, c.loop-runs.invariant.names) at
    (c.in_ok-run.ensures.run form m.rest m.pairs.names m.are_keys (rw c.loop-runs.invariant.names m.decide)) in
    let parts = c.in_ok-values.ensures.split form _ m.pairs.parts in
    let names = c.in_ok-keys.ensures.split form _ m.pairs.names in
    failed _ _ _ c.from_residual-in_err-push.ensures.1 (inl (c.in_err-push.ensures.pushed form m.held f.run m.runs_hold
    (run_hold form _ _ _ _ _ _ m _ _ _ (record { keys = c.in-Some.run'.others; values = c.in_ok-values.other_values }) f parts.1 _ names.0 parts.0)))

pub loop-runs-preserved : goal.loop-runs-preserved
loop-runs-preserved c = record {
  left = λ form ps h a.
      let m = c.loop-runs.invariant.left form ps h a in
      let f = rw (c.in-Some.is, c.loop-runs.invariant.names) at
      (c.in_ok-run.ensures.run form m.rest m.pairs.names m.are_keys (rw c.loop-runs.invariant.names m.decide)) in
      let parts = c.in_ok-values.ensures.split form _ m.pairs.parts in
      elim c.if-run-wanted.branch [
        | then-run-wanted+in_ok-keys+in_ok-push w ↦
            let names = w.in_ok-keys.ensures.split form _ m.pairs.names in
            let pushed = w.in_ok-push.ensures.pushed form m.held f.run m.runs_hold
            (run_hold form _ _ _ _ _ _ m _ _ _ (record { keys = c.in-Some.run'.others; values = c.in_ok-values.other_values }) f parts.1 _ names.0 parts.0) in
            rw w.runs-is (parting_on form _ _ _ _ _ _ m _ _ _ (record { keys = c.in-Some.run'.others; values = c.in_ok-values.other_values }) f parts.1 _
            (rw w.if-run-wanted.true pushed))
        | else-run-wanted w ↦
            rw w.runs-is (parting_on form _ _ _ _ _ _ m _ _ _ (record { keys = c.in-Some.run'.others; values = c.in_ok-values.other_values }) f parts.1 _
            (rw (w.if-run-wanted.false, append-nil) m.runs_hold))
      ];
  names = c.in_ok-run.ensures.names ∙ c.loop-runs.invariant.names;
}
