use Rattle.jsonb.proofs.Lemmas.{no_tests}
use Rattle.jsonb.proofs.selector.evaluate.tested_items.Goals as goal

pub returns-in_default-clause-meant : goal.returns-in_default-clause-meant
returns-in_default-clause-meant c = λ e top ts k a. no_tests c.args.tests.now e c.in_default.ensures.cases k

pub returns-in-Some-only_name-clause-meant : goal.returns-in-Some-only_name-clause-meant
returns-in-Some-only_name-clause-meant c = λ e top ts k a.
    c.named_items.ensures.meant e top ts (rw c.in-Some.ensures.cases.0 at k) (rw c.asked_names.ensures at c.in-Some-only_name.ensures c.args.mode top) a

pub returns-in-None-clause-meant : goal.returns-in-None-clause-meant
returns-in-None-clause-meant c = λ e top ts k a.
    c.other_items.ensures.meant e top ts (rw c.in-Some.ensures.cases.0 at k) a
