use Rattle.jsonb_c.proofs.NameSets.{drops_names, picks_names}
use Rattle.jsonb_c.proofs.document.names.chosen_object.Goals as goal

pub returns-in-Named-clause-object : goal.returns-in-Named-clause-object
returns-in-Named-clause-object c = λ names has form t d.
    rw c.in-Named.is (rw (picks_names c.args.keys.now names t has) at (c.object_pick.ensures.pairs form t (rw c.new-document.ensures d)))

pub returns-in-Rest-clause-object : goal.returns-in-Rest-clause-object
returns-in-Rest-clause-object c = λ names has form t d.
    rw c.in-Rest.is (rw (drops_names c.args.keys.now names t has) at (c.object_delete.ensures.pairs form t (rw c.new-document.ensures d)))
