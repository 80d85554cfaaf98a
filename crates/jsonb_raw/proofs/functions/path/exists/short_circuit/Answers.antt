use Rattle.jsonb_raw.proofs.functions.path.exists.short_circuit.Goals as goal

pub returns-in-Keys-clause-has : goal.returns-in-Keys-clause-has
returns-in-Keys-clause-has g c = λ left tells form t d.
    let s = rw c.in-Keys.is at (c.in_ok-keys.ensures.texts form t d) in
    rw s.1 (c.keys_decide.ensures.has left tells form s.0 s.2 s.3)

pub returns-in-Elements-clause-has : goal.returns-in-Elements-clause-has
returns-in-Elements-clause-has g c = λ left tells form t d.
    let s = rw c.in-Elements.is at (c.in_ok-keys.ensures.texts form t d) in
    rw s.1 (c.elements_decide.ensures.has left tells form s.0 s.2)

pub returns-in-Root-clause-has : goal.returns-in-Root-clause-has
returns-in-Root-clause-has g c = λ left tells form t d.
    c.root_decides.ensures left tells t (rw c.in-Root.is at (c.in_ok-keys.ensures.texts form t d))
