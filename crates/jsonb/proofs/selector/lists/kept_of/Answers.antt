use Rattle.jsonb.proofs.Lemmas.{◌∷◌, [], ap, sym, ◌∙◌, subst, append-nil, AllZip, Locates, try_flat_map, truth, step_meaning, filter, node_spots, flat, AreFrom, located_once, Said, list_then, list_with_repeats}
use Rattle.jsonb.proofs.selector.lists.kept_of.Goals as goal

pub returns-in-Ok-clause-meant : goal.returns-in-Ok-clause-meant
returns-in-Ok-clause-meant c = λ bytes mode e top o ts list at from.
    let f = step_meaning mode (filter e) top in
    let spots = node_spots c.in-Ok.items in
    let here : AllZip (Locates bytes) spots ts =
    subst (λ l. AllZip (Locates bytes) l ts) (ap (λ l. flat (l ∷ [])) c.in-Ok.is ∙ append-nil spots) at in
    list_then bytes f spots o c.kept.result (rw c.in-Ok.is at list).ok
    (λ vs zip. list_with_repeats bytes c.kept.result (try_flat_map f vs)
    (c.kept.ensures.meant bytes mode e top vs (subst (λ l. AllZip (Locates bytes) l vs) (sym c.as_slice.ensures) zip)
    (subst (λ us. AreFrom (Said (truth mode e top)) c.args.truths.now c.args.start us) (located_once bytes spots ts vs here zip) from)))
