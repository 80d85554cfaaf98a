use Rattle.jsonb.proofs.Lemmas.{rules, ◌≡◌, Bool, List, Option, Some, Ok, ap, ◌∙◌, Outcome, and_then, Tree, Truth, truth, is_some, first_item, IsAt, exists_is, failed_as, same_outcome, first_refused, one_ok, found_any, from_root}
use Rattle.jsonb.proofs.selector.compared_lists.root_truth.Goals as goal

pub returns-in-Lax-Some-clause-meant : goal.returns-in-Lax-Some-clause-meant
returns-in-Lax-Some-clause-meant c = search (rules, same_outcome)

pub returns-in_default-3-clause-meant : goal.returns-in_default-3-clause-meant
returns-in_default-3-clause-meant c = λ top r. c.truth.ensures.meant top top r r

pub returns-in_err-found-clause-meant : goal.returns-in_err-found-clause-meant
returns-in_err-found-clause-meant c = λ top r.
    let mode = c.args.context.now.mode in
    let told : List Tree → Outcome Truth = λ ts. Ok (Some (is_some (first_item ts))) in
    let view = ap (λ x. truth mode x top top) (exists_is c.args.e.now c.in-ExistsFunc.steps c.in-ExistsFunc.is)
    ∙ ap (λ o. and_then o told) (from_root mode c.in-ExistsFunc.steps.items _ top c.deref.ensures.value) in
    failed_as c.from_residual.ensures.1 (same_outcome view (first_refused told (c.in_err-found.ensures.meant top top r)))

pub returns-in-Some-clause-meant : goal.returns-in-Some-clause-meant
returns-in-Some-clause-meant c = λ top r.
    let mode = c.args.context.now.mode in
    let told : List Tree → Outcome Truth = λ ts. Ok (Some (is_some (first_item ts))) in
    let view = ap (λ x. truth mode x top top) (exists_is c.args.e.now c.in-ExistsFunc.steps c.in-ExistsFunc.is)
    ∙ ap (λ o. and_then o told) (from_root mode c.in-ExistsFunc.steps.items _ top c.deref.ensures.value) in
    same_outcome view (one_ok {S = λ (b : Option Bool) d. b ≡ d} {z = Some c.is_some.result} told
    (found_any (IsAt c.args.context.now.document) c.in-Some.found c.is_some.result _ c.is_some.ensures
    (rw c.in-Some.is at (c.in_ok-found.ensures.meant top top r))) (λ ts same. ap Some same))
