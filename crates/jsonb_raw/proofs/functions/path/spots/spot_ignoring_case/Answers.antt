use Rattle.jsonb_raw.proofs.Lemmas.{◌≡◌, Some, sym, ◌∙◌, keys_of, members, position_in_some_case, named_place, pairs_there}
use Rattle.jsonb_raw.proofs.functions.path.spots.spot_ignoring_case.Goals as goal

pub returns-clause-value : goal.returns-clause-value
returns-clause-value c = λ form t d l.
    let o = pairs_there form t _ _ c.in-Some.is (c.in_ok-pairs.ensures.entries form t d) in
    let at : position_in_some_case c.args.name.now (keys_of (members o.0)) ≡ Some c.in-Some-2.position =
    rw (← c.as_bytes.ensures.value) (sym (c.in_ok-position.ensures.position form (keys_of (members o.0)) o.2.names) ∙ c.in-Some-2.is) in
    rw (sym (named_place c.args.name.now o.0 t c.in-Some-2.position o.1 at)) (c.nth_child.ensures.child t l)
