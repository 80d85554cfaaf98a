use Rattle.jsonb.proofs.Lemmas.{◌<◌, ◌≤◌, ◌∷◌, [], length, take, get_or, take_all, arith, exists_of, steps_meaning, steps_view, path_steps, IsTruth, truth, exists, AreTruths, AreMade, IfSome, AllZip-append, no_spot, IsFoundFor, found_for, each_started, made_one, made_many, zip_any, if_some_as}
use Rattle.std.proofs.lemmas.Grind.{take_at_read}
use Rattle.jsonb.specs.declared.selector.column.Column.TheVariants as column
use Rattle.jsonb.proofs.selector.expressions.Evaluation.searched.Goals as goal

pub loop-item-preserved : goal.loop-item-preserved
loop-item-preserved c =
    let xs = c.starts-items.result.now in
    let i = c.loop-item.item-index in
    let here : i < length xs = omega (arith, c.loop-item-test.true) in
    let y = get_or xs i no_spot in
    let found = IsFoundFor c.args.self.now.context c.args.steps.now in
    let at : found y c.in-Some.truth = (λ top t has at. rw c.in-Some.is at (c.in_ok-truth.ensures.meant top t has at), rw c.in-Some.is at c.in_ok-truth.ensures.sound) in
    rw ((take_at_read xs i no_spot here).1, c.in_ok-push.ensures.items)
    (AllZip-append found (take i xs) (y ∷ []) c.loop-item.truths.items (c.in-Some.truth ∷ []) c.loop-item.invariant (at, tt))

pub returns-then-items-eq1-clause-meant : goal.returns-then-items-eq1-clause-meant
returns-then-items-eq1-clause-meant c = λ top ts has at some.
    let context = c.args.self.now.context in
    let steps = c.args.steps.now in
    let one : (1 ≤ length c.starts-items.result.now) × (length c.starts-items.result.now ≤ 1) =
    (omega (arith, c.if-items-eq1.true), omega (arith, c.if-items-eq1.true)) in
    let h : IfSome c.in_ok-found.found (λ said. AreTruths (truth context.mode (exists (path_steps steps)) top) ts (column.Same said)) =
    if_some_as c.in_ok-found.found
    (λ said p. each_started {S = λ y t. IsTruth y (exists_of (steps_meaning context.mode (path_steps steps) top (t ∷ [])))} c.args.self.now (steps_view steps)
    top ts (column.Same said) (λ x y t q r. q.0 top t has r) has at some
    (rw c.starts-items.ensures at (made_one (IsFoundFor context steps) c.starts-items.result.now no_spot said one.0
    one.1 p)))
    (found_for context steps (get_or c.starts-items.result.now 0 no_spot) c.in_ok-found.found c.in_ok-found.ensures.meant c.in_ok-found.ensures.sound) in
    grind (arith, h, c.map.ensures)

pub returns-clause-meant : goal.returns-clause-meant
returns-clause-meant c = λ top ts has at some.
    let context = c.args.self.now.context in
    let steps = c.args.steps.now in
    let made = rw (take_all c.loop-item.item-index c.starts-items.result.now (omega (arith, c.loop-item-test.false))) at c.loop-item.invariant in
    let all : AreMade (IsFoundFor context steps) c.starts-items.result.now (column.Each c.loop-item.truths) =
    made_many _ c.starts-items.result.now c.loop-item.truths (λ e. omega (arith, e, c.if-items-eq1.false)) made in
    each_started {S = λ y t. IsTruth y (exists_of (steps_meaning context.mode (path_steps steps) top (t ∷ [])))} c.args.self.now (steps_view steps) top ts
    (column.Each c.loop-item.truths) (λ x y t p r. p.0 top t has r) has at some
    (rw c.starts-items.ensures at all)

pub returns-clause-sound : goal.returns-clause-sound
returns-clause-sound c =
    zip_any (λ x y p. p.1) c.starts-items.result.now c.loop-item.truths.items
    (rw (take_all c.loop-item.item-index c.starts-items.result.now (omega (arith, c.loop-item-test.false))) at c.loop-item.invariant)
