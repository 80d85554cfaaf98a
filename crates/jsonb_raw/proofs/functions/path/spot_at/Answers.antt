use Rattle.jsonb_raw.proofs.Lemmas.{◌≡◌, None, Some, length, sym, ap, ◌∙◌, w32, to_z-of_z, index_position}
use Rattle.jsonb_raw.proofs.functions.path.spot_at.Goals as goal

pub returns-in_default-clause-spot : goal.returns-in_default-clause-spot
returns-in_default-clause-spot c = λ bytes ts h.
    let none : index_position (length ts) c.args.index ≡ None =
    ap (λ n. index_position n c.args.index) (sym (c.len.ensures bytes ts h))
    ∙ ap (index_position c.len.result) (sym (to_z-of_z w32 c.args.index c.ranges.index)) ∙ sym c.index_position.ensures ∙ c.in_default.is in
    rw none tt

pub returns-clause-spot : goal.returns-clause-spot
returns-clause-spot c = λ bytes ts h.
    let found : index_position (length ts) c.args.index ≡ Some c.in-Some.position =
    ap (λ n. index_position n c.args.index) (sym (c.len.ensures bytes ts h))
    ∙ ap (index_position c.len.result) (sym (to_z-of_z w32 c.args.index c.ranges.index)) ∙ sym c.index_position.ensures ∙ c.in-Some.is in
    rw found (c.nth_spot.ensures.spot bytes ts h)
