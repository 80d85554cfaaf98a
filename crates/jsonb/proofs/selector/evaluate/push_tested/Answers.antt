use Rattle.jsonb.proofs.Lemmas.{rules, Ok, ap, sym, ◌∙◌, failed_as, same_outcome, refused_as, given_by}
use Rattle.jsonb.proofs.selector.evaluate.push_tested.Goals as goal

pub returns-in_err-filter_truth-clause-meant : goal.returns-in_err-filter_truth-clause-meant
returns-in_err-filter_truth-clause-meant c = search (rules, failed_as, refused_as)

pub returns-clause-meant : goal.returns-clause-meant
returns-clause-meant c = λ e top t before a m q b.
    given_by (c.in_ok-filter_truth.ensures.meant e top t a m q)
    (λ ts is. same_outcome (ap Ok (sym is ∙ c.is_true-keeps.ensures t)) (c.push_if.ensures.meant c.args.bytes.now t before m b))
