use Rattle.jsonb_raw.proofs.Lemmas.{◌∙◌, ap, not, nat_eq, test_first, test_shared, test_unshared}
use Rattle.jsonb_raw.proofs.functions.array.sets.keep_element.Goals as goal

pub returns-in_ok-add-in-First-clause-kept : goal.returns-in_ok-add-in-First-clause-kept
returns-in_ok-add-in-First-clause-kept c = λ other before t h f e few.
    ap (λ n. nat_eq n 0) c.in_ok-add-in-First.ensures.before
    ∙ test_first c.args.counts.now other before t c.args.key.now f e c.args.kind c.in-First.is h

pub returns-in-Shared-clause-kept : goal.returns-in-Shared-clause-kept
returns-in-Shared-clause-kept c = λ other before t h f e few.
    c.decrement.ensures.taken ∙ test_shared c.args.counts.now other before t c.args.key.now f e c.args.kind c.in-Shared.is h

pub returns-in-Unshared-clause-kept : goal.returns-in-Unshared-clause-kept
returns-in-Unshared-clause-kept c = λ other before t h f e few.
    ap not c.decrement-in-Unshared.ensures.taken
    ∙ test_unshared c.args.counts.now other before t c.args.key.now f e c.args.kind c.in-Unshared.is h
