use Rattle.jsonb.proofs.selector.evaluate.tested_truth.Goals as goal

pub returns-in-Compared-clause-meant : goal.returns-in-Compared-clause-meant
returns-in-Compared-clause-meant c = λ e top t a m. c.filter_truth.ensures.meant e top t a m
    (λ condition h. let is = rw c.in-Compared.is at h in
    c.literal_truth-truth.ensures.meant condition c.args.mode top t is (c.compared_member-found.ensures.meant top t is.members m))

pub returns-in_default : goal.returns-in_default
returns-in_default c = record {
  meant = λ e top t a m. c.filter_truth-in_default.ensures.meant e top t a m
      (λ condition h. c.question_truth-truth.ensures.meant condition top t h m);
  errors = c.filter_truth-in_default.ensures.errors c.question_truth-truth.ensures.errors;
}
