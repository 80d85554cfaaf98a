use Rattle.jsonb.proofs.Lemmas.{Ok, flat_map, compare, values_of_item, failed_as, same_outcome, first_refused, second_refused, followed, both_members}
use Rattle.jsonb.proofs.selector.evaluate.members_truth.Goals as goal

pub returns-in_err-left-clause-meant : goal.returns-in_err-left-clause-meant
returns-in_err-left-clause-meant c = λ e top t k m.
    failed_as c.from_residual.ensures.1 (same_outcome (both_members c.args.comparison.now e c.args.mode top t k)
    (first_refused _ (c.in_err-left.ensures.meant top t k.left m)))

pub returns-in_err-right-clause-meant : goal.returns-in_err-right-clause-meant
returns-in_err-right-clause-meant c = λ e top t k m.
    failed_as c.from_residual-in_err-right.ensures.1 (same_outcome (both_members c.args.comparison.now e c.args.mode top t k)
    (second_refused (λ ls rs. Ok (compare c.args.comparison.now.op (flat_map values_of_item ls) (flat_map values_of_item rs)))
    (c.in_ok-left.ensures.meant top t k.left m) (c.in_err-right.ensures.meant top t k.right m)))

pub returns-clause-meant : goal.returns-clause-meant
returns-clause-meant c = λ e top t k m.
    same_outcome (both_members c.args.comparison.now e c.args.mode top t k)
    (followed _ (c.in_ok-left.ensures.meant top t k.left m) (λ ls a.
    followed _ (c.in_ok-right.ensures.meant top t k.right m) (λ rs b. c.members_compared.ensures.meant ls rs a b)))
