use Rattle.jsonb_raw.proofs.Lemmas.{rules, w32, ◌∙◌, SFits, to_z-of_z, of_object, met_in_object, met_by_index}
use Rattle.jsonb_raw.proofs.functions.path.delete.child_position.Goals as goal

pub returns-in-Object-Index-clause-position : goal.returns-in-Object-Index-clause-position
returns-in-Object-Index-clause-position c = λ form t h.
    let fits : SFits w32 c.in-Object-Index.index = search rules in
    met_by_index form t c.args.container.now c.args.step.now _ c.in-Object-Index.index _ (to_z-of_z w32 c.in-Object-Index.index fits) c.in-Object-Index.is-1
    (of_object form t c.args.container.now c.in-Object-Index.is-0 h) (c.decimal_position.ensures.position form)

pub returns-in-Object-QuotedName-clause-position : goal.returns-in-Object-QuotedName-clause-position
returns-in-Object-QuotedName-clause-position c = λ form t h.
    met_in_object form t c.args.container.now c.args.step.now _ _
    (rw c.in-Object-QuotedName.is-1 (c.as_bytes.ensures.value ∙ c.as_str.ensures.value))
    (of_object form t c.args.container.now c.in-Object-QuotedName.is-0 h) (c.name_position.ensures.position form)

pub returns-in-Object-Name-clause-position : goal.returns-in-Object-Name-clause-position
returns-in-Object-Name-clause-position c = λ form t h.
    met_in_object form t c.args.container.now c.args.step.now _ _
    (rw c.in-Object-Name.is-1 (c.as_bytes-in-Object-Name.ensures.value ∙ c.as_str-in-Object-Name.ensures.value))
    (of_object form t c.args.container.now c.in-Object-Name.is-0 h) (c.name_position-in-Object-Name.ensures.position form)
