use Rattle.jsonb_raw.proofs.Lemmas.{◌≡◌, length, take, drop, ap, ◌∙◌, w32, to_z-of_z, as_elements, insert_place, failed, refused_between, refused_beside}
use Rattle.jsonb_raw.proofs.functions.array.array_with_element.Goals as goal

pub returns-in_err-elements-clause-inserted : goal.returns-in_err-elements-clause-inserted
returns-in_err-elements-clause-inserted c = λ form t u d e.
    failed _ _ _ c.from_residual.ensures.1 (refused_beside form t u (insert_place (length (as_elements t)) c.args.pos) _ (c.in_err-elements.ensures.elements form t d))

pub returns-in_err-element-clause-inserted : goal.returns-in_err-element-clause-inserted
returns-in_err-element-clause-inserted c = λ form t u d e.
    let place = insert_place (length (as_elements t)) c.args.pos in
    failed _ _ _ c.from_residual-in_err-element.ensures.1 (refused_between form (take place (as_elements t)) (drop place (as_elements t)) u _ (c.in_err-element.ensures.root form u e))

pub returns-clause-inserted : goal.returns-clause-inserted
returns-clause-inserted c = λ form t u d e.
    let entries = c.as_entries-entries.ensures form (as_elements t) (c.in_ok-elements.ensures.elements form t d) in
    let place : c.insert_place-place.result ≡ insert_place (length (as_elements t)) c.args.pos =
    c.insert_place-place.ensures ∙ ap (insert_place c.entry_count.result) (to_z-of_z w32 c.args.pos c.ranges.pos)
    ∙ ap (λ n. insert_place n c.args.pos) (c.entry_count.ensures form (as_elements t) entries) in
    rw (← place) (c.array_with_entry.ensures.inserted form (as_elements t) u entries (c.as_entries.ensures form u (c.in_ok-element.ensures.root form u e)))
