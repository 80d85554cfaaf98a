use Rattle.jsonb.proofs.selector.by_path.RawJsonbSelectByPath.path_match.Goals as goal

pub returns-clause-truth : goal.returns-clause-truth
returns-clause-truth c = λ form top decodes.
    rw c.new.ensures.mode at (c.predicate_match.ensures.truth form top (rw c.new.ensures.root decodes))
