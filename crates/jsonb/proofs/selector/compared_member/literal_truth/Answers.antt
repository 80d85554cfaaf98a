use Rattle.jsonb.proofs.Lemmas.{Ok, map, flat_map, sym, compare, value_view, values_of_item, arith, same_outcome, followed, told_by, truth_is}
use Rattle.jsonb.proofs.selector.compared_member.literal_truth.Goals as goal

pub returns-in_err-member-clause-meant : goal.returns-in_err-member-clause-meant
returns-in_err-member-clause-meant c = λ e mode top t k g. grind (arith, truth_is c.args.comparison.now e mode top t k, told_by c.args.comparison.now)

pub returns-clause-meant : goal.returns-clause-meant
returns-clause-meant c = λ e mode top t k g.
    same_outcome (truth_is c.args.comparison.now e mode top t k)
    (followed (told_by c.args.comparison.now) (rw c.in_ok-member.was at g) (λ us related.
    same_outcome (λ i. Ok (compare c.args.comparison.now.op (flat_map values_of_item us) (map value_view (sym c.from_ref-rights.ensures.value i))))
    (c.found_truth.ensures.meant us related)))
