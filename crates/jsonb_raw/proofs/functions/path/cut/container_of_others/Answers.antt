use Rattle.jsonb_raw.proofs.Lemmas.{◌++◌, sym, ◌∙◌, remove, held_around, two_runs}
use Rattle.jsonb_raw.proofs.functions.path.cut.container_of_others.Goals as goal

pub returns-clause-container : goal.returns-clause-container
returns-clause-container c = λ form names front after n t names_hold front_hold after_hold passed makes.
    let k = held_around form _ _ names n c.len.result (c.len.ensures.count form front front_hold ∙ sym passed) (c.in_ok-keys.ensures.around form names names_hold) in
    c.in_ok-made-2.ensures.container form (remove names n) (front ++ after) t (two_runs form _ _ _ _ k.0 k.1) (two_runs form _ _ _ _ front_hold after_hold) makes
