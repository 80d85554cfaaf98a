use Rattle.std.proofs.Common.{◌≡◌, None, refl, sym}
use Rattle.std.specs.Prelude.{slice_get}
use Rattle.std.proofs.lemmas.Result.{err_from_is_err_and}
use Rattle.jsonb_doc.specs.Tree.{object, members}
use Rattle.jsonb_raw.proofs.IteratorItems.{SomePairs-all, SomePairs-first, SomePairs-error, SomePairs-none}
use Rattle.jsonb_raw.proofs.ObjectLemmas.{object_of}
use Rattle.jsonb_c.proofs.MakingLemmas.{pair_here, pair_behind}
use Rattle.jsonb_c.proofs.read.pair_at.Goals as goal

pub loop-pair-init : goal.loop-pair-init
loop-pair-init c = λ form ps d.
    SomePairs-all form ps _ _ _ (λ left. slice_get (members left) c.args.index ≡ slice_get (members ps) c.args.index)
    c.in-Some.is c.into_iter-pair-iterator.ensures.into_iter_gives (c.in_ok-pairs.ensures.decodes form (object ps) d) refl

pub returns-in_err-key-clause-pair : goal.returns-in_err-key-clause-pair
returns-in_err-key-clause-pair c = λ form t d.
    let o = object_of form t _ _ c.in-Some.is (c.in_ok-pairs.ensures.decodes form t d) in
    absurd (SomePairs-error form _ _ _ _ _ c.in_err-key.was c.in-Some-pair.ensures.steps (c.loop-pair.invariant form o.0 (rw o.1 at d)))

pub returns-in_err-value-clause-pair : goal.returns-in_err-value-clause-pair
returns-in_err-value-clause-pair c = λ form t d.
    let p = err_from_is_err_and c.from_residual-in_err-value.result c.from_residual-in_err-value.ensures.1 in
    let o = object_of form t _ _ c.in-Some.is (c.in_ok-pairs.ensures.decodes form t d) in
    rw (p.1, p.2, o.1) (SomePairs-first form _ _ _ _ _ c.in_ok-key.was c.in-Some-pair.ensures.steps (c.loop-pair.invariant form o.0 (rw o.1 at d))
    (λ value rest left stands same.
    let is = pair_here (members rest) (c.in_ok-key.key.now, value) c.loop-pair.before _ c.if-before-eq0.true same in
    rw is (c.in_err-value.ensures.decodes form value stands)))

pub returns-then-before-eq0-clause-pair : goal.returns-then-before-eq0-clause-pair
returns-then-before-eq0-clause-pair c = λ form t d.
    let o = object_of form t _ _ c.in-Some.is (c.in_ok-pairs.ensures.decodes form t d) in
    rw o.1 (SomePairs-first form _ _ _ _ _ c.in_ok-key.was c.in-Some-pair.ensures.steps (c.loop-pair.invariant form o.0 (rw o.1 at d))
    (λ value rest left stands same.
    let is = pair_here (members rest) (c.in_ok-key.key.now, value) c.loop-pair.before _ c.if-before-eq0.true same in
    rw is (refl, c.in_ok-value.ensures.decodes form value stands)))

pub loop-pair-preserved : goal.loop-pair-preserved
loop-pair-preserved c = λ form ps d.
    SomePairs-first form _ _ _ _ _ c.in_ok-key.was c.in-Some-pair.ensures.steps (c.loop-pair.invariant form ps d)
    (λ value rest left stands same. record {
      pairs = rest;
      left = left;
      fact = pair_behind (members rest) (c.in_ok-key.key.now, value) c.loop-pair.before _ c.if-before-eq0.false same;
    })

pub returns-clause-pair : goal.returns-clause-pair
returns-clause-pair c = λ form t d.
    let o = object_of form t _ _ c.in-Some.is (c.in_ok-pairs.ensures.decodes form t d) in
    let same = SomePairs-none form _ _ _ c.in-None.ensures.steps (c.loop-pair.invariant form o.0 (rw o.1 at d)) in
    let is : slice_get (members o.0) c.args.index ≡ None = sym same in
    rw (o.1, is) refl
