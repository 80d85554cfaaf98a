use Rattle.jsonb.proofs.selector.compared_member.item_truth.Goals as goal

pub returns-clause-meant : goal.returns-clause-meant
returns-clause-meant c = λ e top t k s.
    c.literal_truth.ensures.meant e c.args.mode top t k (c.compared_member-found.ensures.meant top t k.members s)
